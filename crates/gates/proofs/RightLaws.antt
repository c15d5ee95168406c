-- Circuits that pass opening, and make every goal true under every assignment of the inputs, are right for the formula.
use Rattle.std.proofs.Common.{◌≡◌, ℕ, ◌+◌, ◌-◌, ◌*◌, ◌≤◌, Bool, true, false, cond, ◌||◌, List, [], ◌∷◌, map, get_or, Ok, sym, refl, ap, ◌∙◌, ap₂, arith}
use Rattle.std.specs.List.{AllByRecursion}
use Rattle.std.proofs.ByRecursion.{All-from_get_or}
use Rattle.std.proofs.lemmas.Bool.{true≢false}
use Rattle.formula.specs.declared.tables.Kind.{Kind}
use Rattle.formula.specs.declared.tables.Kind.TheVariants as kind
use Rattle.formula.specs.declared.tables.Literal.{Literal}
use Rattle.formula.specs.declared.tables.Variable.{Variable}
use Rattle.formula.specs.Groups.{is_undeclared, is_universal, is_existential}
use Rattle.spelling.specs.CircuitGrammar.{Aig, wires_of}
use Rattle.spelling.specs.Dqbf.{Declaration, Dqbf, member, record_of}
use Rattle.spelling.proofs.PrefixLaws.{variables_of, universal_place}
use Rattle.audit.proofs.FormulaPlaces.{existential_place}
use Rattle.clauses.specs.Worlds.{true_in}
use Rattle.models.specs.CircuitValues.{Inputs, gate_values, inputs_by, circuit_functions, ReadsAllowed, RightCircuits}
use Rattle.models.specs.HeldTables.{RowsOfFormula, RowsOfCircuit, aig_of, clause_of, Held}
use Rattle.models.specs.Models.{Assignment, Functions, signed, value_of, literal_value, clause_value}
use Rattle.models.proofs.CircuitRows.{Rows, lawful_rows}
use Rattle.models.proofs.DependsLaws.{functions_allowed}
use Rattle.models.proofs.GateLaws.{wire_input}
use Rattle.models.proofs.HeldLaws.{clause_held, literals_declared, record_declared, kind_declared}
use Rattle.models.proofs.ValueLaws.{value_universal, value_existential}
use Rattle.gates.specs.CircuitWorlds.{circuit_world, world_value}
use Rattle.gates.specs.Wiring.{wire_entry, goal_code, goal_entry, goal_clause, goal_number, truth_opening}
use Rattle.gates.proofs.EntryLaws.{low_wire, high_wire, signed_value}
use Rattle.gates.proofs.OpeningLaws.{opened, opening_right}

module _ (t : RowsOfFormula) (u : RowsOfCircuit) (rows : Rows u) (f : Dqbf) (held : Held t f) (reads : ReadsAllowed f (aig_of u)) (σ : Assignment) where
  abbrev c : Aig
  c = aig_of u

  abbrev prefix : List Declaration
  prefix = f.prefix

  -- the universals' values as inputs, and the functions of the outputs
  abbrev α : Inputs
  α = inputs_by prefix σ

  abbrev F : Functions
  F = circuit_functions prefix c

  abbrev position : ℕ → ℕ
  position v = (record_of prefix v).position

  -- a variable's entry has its value, by its kind
  universal_entry : (v : ℕ) (negative : Bool) → is_universal (record_of prefix v).kind ≡ true → world_value c α (wire_entry (2 * position v + cond negative 1 0)) ≡ signed negative (value_of prefix F σ v)
  universal_entry v negative is =
      let p = position v in
      let (low, high, at) = universal_place prefix v is in
      let few = rows.lawful.few_inputs in
      let inputs = reads.inputs in
      signed_value c α p negative (omega arith)
      ∙ ap (signed negative)
      (low_wire c α p (omega arith) ∙ wire_input c.inputs α (gate_values c.inputs α [] c.gates) p low (omega arith)
      ∙ ap σ at ∙ sym (value_universal prefix F σ v is))

  existential_entry : (v : ℕ) (negative : Bool) → is_existential (record_of prefix v).kind ≡ true → world_value c α (wire_entry (2 * (u.head.wires + position v) + cond negative 1 0)) ≡ signed negative (value_of prefix F σ v)
  existential_entry v negative is =
      let p = position v in
      let (low, high, at) = existential_place prefix v is in
      let few = rows.lawful.few_wires in
      let few_existentials = held.lawful.few_existentials in
      ap (λ m. world_value c α (wire_entry (2 * (m + p) + cond negative 1 0))) rows.wires
      ∙ signed_value c α (wires_of c + p) negative (omega arith)
      ∙ ap (signed negative) (high_wire c α p low ∙ sym (value_existential prefix F σ v is))

  kind_entry : (κ : Kind) (v : ℕ) (negative : Bool) → (record_of prefix v).kind ≡ κ → is_undeclared κ ≡ false → world_value c α (wire_entry (goal_code κ u.head.wires (position v) negative)) ≡ signed negative (value_of prefix F σ v)
  kind_entry kind.Undeclared v negative e declared = absurd (true≢false declared)
  kind_entry kind.Universal v negative e declared = universal_entry v negative (ap is_universal e)
  kind_entry kind.Existential v negative e declared = existential_entry v negative (ap is_existential e)

  literal_entry : (l : Literal) → member l.variable (variables_of prefix) ≡ true → world_value c α (goal_entry t.variables u.head.wires l) ≡ literal_value f F σ l
  literal_entry l m =
      let v = l.variable in
      ap (λ (x : Variable). world_value c α (wire_entry (goal_code x.kind u.head.wires x.position l.negative))) (record_declared held v m)
      ∙ kind_entry (record_of prefix v).kind v l.negative refl (kind_declared held v m)

  -- a goal has its clause's value
  literals_value : (ls : List Literal) → AllByRecursion (λ l. member l.variable (variables_of prefix) ≡ true) ls → true_in (circuit_world c α) (map (goal_entry t.variables u.head.wires) ls) ≡ clause_value f F σ ls
  literals_value [] ms = refl
  literals_value (l ∷ ls) (m, ms) = ap₂ ◌||◌ (literal_entry l m) (literals_value ls ms)

  goals_satisfy : ((j : ℕ) → 1 ≤ j → j ≤ goal_number t → (β : Inputs) → true_in (circuit_world c β) (goal_clause t u.head.wires j) ≡ true) → AllByRecursion (λ d. clause_value f F σ d ≡ true) f.matrix
  goals_satisfy goals =
      All-from_get_or (λ d. clause_value f F σ d ≡ true) f.matrix []
      (λ i h.
      let count = held.holds.head_clauses in
      let few = held.lawful.few_clauses in
      let j = i + 1 in
      let at : i ≡ j - 1 = omega arith in
      let low : 1 ≤ j = omega arith in
      let high : j ≤ t.head.clauses = omega arith in
      ap (λ k. clause_value f F σ (get_or f.matrix k [])) at
      ∙ ap (clause_value f F σ) (sym (clause_held held j low high))
      ∙ sym (literals_value (clause_of t j) (literals_declared held j low high))
      ∙ goals j low (omega arith) α)

-- the circuits are right for whatever formula the tables hold
pub right_circuits : (t : RowsOfFormula) (u : RowsOfCircuit) → truth_opening t u ≡ Ok tt → ((j : ℕ) → 1 ≤ j → j ≤ goal_number t → (α : Inputs) → true_in (circuit_world (aig_of u) α) (goal_clause t u.head.wires j) ≡ true) → (f : Dqbf) → Held t f → RightCircuits f (aig_of u)
right_circuits t u e goals f held =
    let rows = lawful_rows u (opened t u e).circuit in
    let reads = opening_right t u e f held in
    record {
      reads = reads;
      model =
          record {
            allowed = functions_allowed f (aig_of u) held.lawful rows.lawful reads;
            satisfies = λ σ. goals_satisfy t u rows f held reads σ goals;
          };
    }
