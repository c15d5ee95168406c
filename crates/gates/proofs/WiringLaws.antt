-- The premises of a lawful circuit are true in its worlds, and short; so are the goals.
use Rattle.std.proofs.Common.{◌≡◌, ℕ, ◌+◌, ◌-◌, ◌*◌, ◌<◌, ◌≤◌, Bool, true, false, not, ◌&&◌, ◌||◌, List, [], ◌∷◌, length, get_or, Ok, refl, ap, ◌∙◌, subst, ap₂, arith}
use Rattle.std.proofs.ByRecursion.{All-get_or}
use Rattle.std.proofs.lemmas.List.{get_or-take, length-map}
use Rattle.std.proofs.lemmas.Result.{IfOk-at_ok}
use Rattle.circuit.specs.declared.tables.Gate.{Gate}
use Rattle.circuit.specs.Reading.{no_gate}
use Rattle.spelling.specs.CircuitGrammar.{Aig, wires_of, LawfulCircuit}
use Rattle.clauses.specs.declared.entry.Entry.{Entry}
use Rattle.clauses.specs.Worlds.{true_in}
use Rattle.records.specs.declared.step.Premise.{Premise}
use Rattle.records.specs.declared.step.Premise.TheVariants as premise
use Rattle.models.specs.CircuitValues.{Inputs, circuit_literal, output_at}
use Rattle.models.specs.HeldTables.{RowsOfFormula, RowsOfCircuit, lawful_circuit, aig_of, clause_of}
use Rattle.models.proofs.CircuitRows.{Rows, lawful_rows}
use Rattle.models.proofs.HeldLaws.{clause_short}
use Rattle.models.proofs.GateLaws.{ordered_at, gate_wire}
use Rattle.gates.specs.CircuitWorlds.{circuit_world, world_value, world_one, HoldsInCircuits}
use Rattle.gates.specs.Wiring.{wire_entry, not_entry, truth_claim, wiring_claim, goal_entry, goal_clause}
use Rattle.gates.proofs.ClaimLaws.{OfClaim, gate_each, output_each, OfGates, OfOutputs, wiring_each}
use Rattle.gates.proofs.EntryLaws.{circuit_wire, even_literal, high_wire, even_value, low_value}

-- what a conjunction implies, and what implies it
and_left : (r s : Bool) → (not (r && s) || (r || false)) ≡ true
and_left true true = refl
and_left true false = refl
and_left false s = refl

and_right : (r s : Bool) → (not (r && s) || (s || false)) ≡ true
and_right true true = refl
and_right true false = refl
and_right false s = refl

and_both : (r s : Bool) → (r && s || (not r || (not s || false))) ≡ true
and_both true true = refl
and_both true false = refl
and_both false s = refl

-- each value implies itself
same_there : (o : Bool) → (not o || (o || false)) ≡ true
same_there true = refl
same_there false = refl

same_back : (o : Bool) → (o || (not o || false)) ≡ true
same_back true = refl
same_back false = refl

-- a gate's literal is the conjunction of its right literals
gate_literal : (c : Aig) → LawfulCircuit c → (α : Inputs) (g : ℕ) → 1 ≤ g → g ≤ length c.gates → circuit_literal c α (2 * (c.inputs + g)) ≡ (circuit_literal c α (get_or c.gates (g - 1) no_gate).left && circuit_literal c α (get_or c.gates (g - 1) no_gate).right)
gate_literal c lawful α g low high =
    let at : c.inputs + g ≡ c.inputs + 1 + (g - 1) = omega arith in
    even_literal c α (c.inputs + g) ∙ ap (circuit_wire c α) at
    ∙ gate_wire c.inputs α c.gates (ordered_at c.inputs c.gates lawful.ordered) (g - 1) (omega arith)

module _ (t : RowsOfCircuit) (rows : Rows t) (α : Inputs) where
  abbrev c : Aig
  c = aig_of t

  abbrev value : Entry → Bool
  value = world_value c α

  abbrev True : List Entry → Type 0
  True es = true_in (circuit_world c α) es ≡ true

  -- entries of wires of the circuit
  entry : (n : ℕ) → n ≤ 2 * wires_of c + 1 → value (wire_entry n) ≡ circuit_literal c α n
  entry n h = low_value c α n rows.lawful.few_wires h

  other : (n : ℕ) (v : Bool) → value (wire_entry n) ≡ v → value (not_entry n) ≡ not v
  other n v e = world_one c α (wire_entry n) ∙ ap not e

  constant_true : True (not_entry 0 ∷ [])
  constant_true = ap (λ v. v || false) (other 0 false (entry 0 (omega arith)))

  gate_at : (g : ℕ) → 1 ≤ g → g ≤ t.head.gates → get_or c.gates (g - 1) no_gate ≡ get_or t.gates (g - 1) no_gate
  gate_at g low high = get_or-take t.head.gates t.gates (g - 1) no_gate (omega arith)

  gates_true : OfGates True t
  gates_true g part low high =
      let a = 2 * (t.head.inputs + g) in
      let gate = get_or t.gates (g - 1) no_gate in
      let r = gate.left in
      let s = gate.right in
      let x = circuit_literal c α r in
      let y = circuit_literal c α s in
      let many = rows.gates in
      let at = gate_at g low high in
      let o = ordered_at c.inputs c.gates rows.lawful.ordered (g - 1) (omega arith) in
      let below_left : r < 2 * (t.head.inputs + 1 + (g - 1)) = subst (λ (z : Gate). z.left < 2 * (t.head.inputs + 1 + (g - 1))) at o.0 in
      let below_right : s < 2 * (t.head.inputs + 1 + (g - 1)) = subst (λ (z : Gate). z.right < 2 * (t.head.inputs + 1 + (g - 1))) at o.1 in
      let own : value (wire_entry a) ≡ (x && y) =
      entry a (omega arith) ∙ gate_literal c rows.lawful α g low (omega arith)
      ∙ ap (λ (z : Gate). circuit_literal c α z.left && circuit_literal c α z.right) at in
      let left = entry r (omega arith) in
      let right = entry s (omega arith) in
      gate_each True a r s part
      (ap₂ (λ u v. u || (v || false)) (other a (x && y) own) left ∙ and_left x y)
      (ap₂ (λ u v. u || (v || false)) (other a (x && y) own) right ∙ and_right x y)
      (ap₂ (λ u v. u || v) own (ap₂ (λ u v. u || (v || false)) (other r x left) (other s y right)) ∙ and_both x y)

  outputs_true : OfOutputs True t
  outputs_true k part low high =
      let e = 2 * (t.head.wires + k) in
      let o = get_or t.outputs (k - 1) 0 in
      let x = circuit_literal c α o in
      let many = rows.outputs in
      let at : output_at c k ≡ o = get_or-take t.head.outputs t.outputs (k - 1) 0 (omega arith) in
      let few = rows.lawful.few_wires in
      let few_outputs = rows.lawful.few_outputs in
      let bound : output_at c k ≤ 2 * wires_of c + 1 = All-get_or (λ l. l ≤ 2 * wires_of c + 1) c.outputs (k - 1) 0 (omega arith) rows.lawful.outputs in
      let wires = rows.wires in
      let same : e ≡ 2 * (wires_of c + k) = omega arith in
      let own : value (wire_entry e) ≡ x =
      ap (λ n. value (wire_entry n)) same ∙ even_value c α (wires_of c + k) (omega arith) ∙ high_wire c α k low
      ∙ ap (circuit_literal c α) at in
      let right = entry o (omega arith) in
      output_each True e o part
      (ap₂ (λ u v. u || (v || false)) (other e x own) right ∙ same_there x)
      (ap₂ (λ u v. u || (v || false)) own (other o x right) ∙ same_back x)

  wiring_of : (class number part : ℕ) → OfClaim True (wiring_claim t class number part)
  wiring_of = wiring_each True t constant_true gates_true outputs_true

-- each premise is true under every assignment of the inputs
pub wiring_true : (t : RowsOfCircuit) (class number part : ℕ) → HoldsInCircuits t class number part
wiring_true t class number part e c is α =
    IfOk-at_ok (True t (lawful_rows t e) α) is (wiring_of t (lawful_rows t e) α class number part)

-- so is the premise of a record
pub claim_true : (t : RowsOfCircuit) → lawful_circuit t ≡ true → (p : Premise) (c : List Entry) → truth_claim t p ≡ Ok c → (α : Inputs) → true_in (circuit_world (aig_of t) α) c ≡ true
claim_true t e (premise.Truth class number part) c is α = wiring_true t class number part e c is α
claim_true t e (premise.Falsity j values) c is α = IfOk-at_ok (λ d. true_in (circuit_world (aig_of t) α) d ≡ true) is tt

-- a premise has at most three literals
abbrev Short : List Entry → Type 0
Short es = length es ≤ 1024

wiring_short : (t : RowsOfCircuit) (class number part : ℕ) → OfClaim Short (wiring_claim t class number part)
wiring_short t =
    wiring_each Short t (omega arith)
    (λ g part low high. gate_each Short _ _ _ part (omega arith) (omega arith) (omega arith))
    (λ k part low high. output_each Short _ _ part (omega arith) (omega arith))

-- no premise of a record has more than 1,024 literals
pub claim_short : (t : RowsOfCircuit) (p : Premise) (c : List Entry) → truth_claim t p ≡ Ok c → length c ≤ 1024
claim_short t (premise.Truth class number part) c is = IfOk-at_ok Short is (wiring_short t class number part)
claim_short t (premise.Falsity j values) c is = IfOk-at_ok Short is tt

-- nor has a goal, which has as many as its clause
pub goal_short : (t : RowsOfFormula) (wires j : ℕ) → length (goal_clause t wires j) ≤ 1024
goal_short t wires j = omega (arith, length-map (clause_of t j) (goal_entry t.variables wires), clause_short t j)
