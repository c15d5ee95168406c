-- What the verdicts of the two sides say of the formula.
use Rattle.std.specs.Prelude.{◌≡◌, ℕ, ◌≤◌, true, List, [], length, Ok}
use Rattle.std.proofs.Common.{arith}
use Rattle.std.proofs.lemmas.Bool.{false≢true}
use Rattle.clauses.specs.Worlds.{true_in}
use Rattle.spelling.specs.Dqbf.{Dqbf}
use Rattle.models.specs.CircuitValues.{Inputs, RightCircuits}
use Rattle.models.specs.HeldTables.{RowsOfFormula, RowsOfCircuit, aig_of, Held}
use Rattle.models.specs.Models.{FalseFormula}
use Rattle.expansion.specs.ModelWorlds.{Model, model_world}
use Rattle.gates.specs.CircuitWorlds.{circuit_world}
use Rattle.gates.specs.Wiring.{truth_claim, truth_opening, goal_number, goal_clause}
use Rattle.gates.proofs.OpeningLaws.{opened}
use Rattle.gates.proofs.RightLaws.{right_circuits}
use Rattle.gates.proofs.WiringLaws.{claim_true}
use Rattle.records.specs.declared.step.Premise.{Premise}
use Rattle.clauses.specs.declared.entry.Entry.{Entry}

-- True: the circuits are right for every formula that the tables hold
abbrev pub SaysTrue : RowsOfFormula → RowsOfCircuit → Type 0
SaysTrue t u = (f : Dqbf) → Held t f → RightCircuits f (aig_of u)

-- False: every formula that the tables hold is false
abbrev pub SaysFalse : RowsOfFormula → Type 0
SaysFalse t = (f : Dqbf) → Held t f → FalseFormula f

-- what the truth side promises of its premises and goals
pub truth_holds : (t : RowsOfFormula) (u : RowsOfCircuit) → truth_opening t u ≡ Ok tt → (p : Premise) (c : List Entry) → truth_claim u p ≡ Ok c → (m : Inputs) → true_in (circuit_world (aig_of u) m) c ≡ true
truth_holds t u o p c e m = claim_true u (opened t u o).circuit p c e m

pub truth_few : (t : RowsOfFormula) → goal_number t ≤ 16384
truth_few t = omega arith

-- circuits under which every clause is true are right
pub truth_conclusion : (t : RowsOfFormula) (u : RowsOfCircuit) → truth_opening t u ≡ Ok tt → ((g : ℕ) → 1 ≤ g → g ≤ goal_number t → (m : Inputs) → true_in (circuit_world (aig_of u) m) (goal_clause t u.head.wires g) ≡ true) → SaysTrue t u
truth_conclusion t u o h = right_circuits t u o h

-- where the empty clause, the one goal, is true in every model there is none
pub falsity_conclusion : (t : RowsOfFormula) → ((g : ℕ) → 1 ≤ g → g ≤ 1 → (m : Model t) → true_in (model_world t m) [] ≡ true) → SaysFalse t
falsity_conclusion t h f held F is =
    false≢true (h 1 (omega arith) (omega arith) (record { formula = f; held = held; functions = F; is_model = is }))

-- what the falsity side promises of its one goal
pub falsity_few : 1 ≤ 16384
falsity_few = omega arith

pub falsity_brief : length {A = Entry} [] ≤ 1024
falsity_brief = omega arith
