-- What the slip of a short case says: True where the shelf has room for one clause of one literal, else unproved.
use Rattle.std.specs.Prelude.{ℕ, cond, [], ◌∷◌, Some, Option}
use Rattle.engine.specs.Shelves.{has_room}
use Rattle.records.specs.declared.slip.Slip.{Slip}
use Rattle.records.specs.declared.slip.Slip.TheVariants as slip
use Rattle.trial.specs.Trial.{positive}

abbrev pub script_slip : ℕ → ℕ → ℕ → Option Slip
script_slip most width case = Some (cond (has_room most width [] (positive 1 ∷ [])) (slip.True case 1) (slip.Unproved case 0 1))
