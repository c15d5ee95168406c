-- The worlds of the falsity side: models of a formula that the tables hold.
use Rattle.std.specs.Prelude.{◌≡◌, ℕ, ◌/◌, ◌%◌, Bool, true, not, List, Ok, ◌==◌, bit_xor}
use Rattle.std.proofs.Common.{ap, ◌∙◌}
use Rattle.base.specs.declared.values.ValueWord.{ValueWord}
use Rattle.base.specs.Words.{has_bit}
use Rattle.clauses.specs.declared.entry.Entry.{Entry}
use Rattle.clauses.specs.Worlds.{World, complement_entry, true_in}
use Rattle.clauses.proofs.CodeLaws.{complement_half, complement_parity}
use Rattle.spelling.specs.Dqbf.{Declaration, Dqbf, record_of}
use Rattle.models.specs.CircuitValues.{existential_at}
use Rattle.models.specs.HeldTables.{RowsOfFormula, Held}
use Rattle.expansion.specs.Instances.{clause_instance}
use Rattle.models.specs.Models.{Assignment, Functions, signed, signed_other, IsModel}

-- a formula that the tables hold, and a model of it
pub record Model (t : RowsOfFormula) : Type 0 where
  pub formula : Dqbf
  pub held : Held t formula
  pub functions : Functions
  pub is_model : IsModel formula functions

-- the assignment of a word of values
abbrev pub assignment_by : List Declaration → ValueWord → Assignment
assignment_by prefix values u = has_bit values (record_of prefix u).position

-- (2k, values) is true exactly if the k-th existential's function is true there, and (2k + 1, values) exactly if not
abbrev pub function_value : List Declaration → Functions → Entry → Bool
function_value prefix F e =
    signed (e.code % 2 == 1) (F (existential_at prefix (e.code / 2)) (assignment_by prefix e.values))

pub function_one : (prefix : List Declaration) (F : Functions) (e : Entry) → function_value prefix F (complement_entry e) ≡ not (function_value prefix F e)
function_one prefix F e =
    ap (λ (k : ℕ). signed (bit_xor e.code 1 % 2 == 1) (F (existential_at prefix k) (assignment_by prefix e.values))) (complement_half e.code)
    ∙ ap (λ (b : Bool). signed b (F (existential_at prefix (e.code / 2)) (assignment_by prefix e.values))) (complement_parity e.code)
    ∙ signed_other (e.code % 2 == 1) (F (existential_at prefix (e.code / 2)) (assignment_by prefix e.values))

abbrev pub model_world : (t : RowsOfFormula) → Model t → World
model_world t m =
    record {
      holds = function_value m.formula.prefix m.functions;
      one = function_one m.formula.prefix m.functions;
    }

-- a premise is true in every model
abbrev pub HoldsInModels : RowsOfFormula → ℕ → ValueWord → Type 0
HoldsInModels t j values =
    (c : List Entry) → clause_instance t j values ≡ Ok c → (m : Model t) → true_in (model_world t m) c ≡ true
