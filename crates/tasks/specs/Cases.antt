-- What a closed case means: its slip's bytes are those of the report, and where they have the side's verdict, it is proved.
use Rattle.std.specs.Prelude.{◌≡◌}
use Rattle.engine.specs.declared.side.Side.{Ghosts as SideGhosts}
use Rattle.engine.specs.Verdicts.{SlipHolds}
use Rattle.records.specs.Slips.{slip_bytes}
use Rattle.tasks.specs.declared.outcome.Outcome.{Outcome}
use Rattle.tasks.specs.declared.outcome.Outcome.TheVariants as outcome

-- a task that ends before the closing has no slip, and nothing is said of it
abbrev pub CaseHolds : {S : Type 0} → SideGhosts S → S → Outcome → Type 0
CaseHolds side s (outcome.FormulaRefused f) = Unit {0}
CaseHolds side s (outcome.CircuitRefused h f) = Unit {0}
CaseHolds side s (outcome.OpeningRefused hs f) = Unit {0}
CaseHolds side s (outcome.Closed hs p slip) = (slip ≡ slip_bytes p.slip) × SlipHolds side s p.slip
