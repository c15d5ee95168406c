-- What holds of every premise of the circuits: what holds of each of their clauses.
use Rattle.std.proofs.Common.{ℕ, ◌+◌, ◌-◌, ◌*◌, ◌≤◌, ◌&&◌, eqb, leb, List, [], ◌∷◌, get_or, IfOk, Result}
use Rattle.std.proofs.lemmas.Bool.{and_parts, cond_both, leb-true}
use Rattle.circuit.specs.Reading.{no_gate}
use Rattle.clauses.specs.declared.entry.Entry.{Entry}
use Rattle.models.specs.HeldTables.{RowsOfCircuit}
use Rattle.gates.specs.Wiring.{wire_entry, not_entry, constant_claim, gate_clauses, output_clauses, wiring_claim}

-- a property of the clause, where there is one
abbrev pub OfClaim : (List Entry → Type 0) → Result (List Entry) ℕ → Type 0
OfClaim Q m = IfOk m Q

module _ (Q : List Entry → Type 0) where
  -- the constant, a gate with the literal a and the right literals r and s, and an existential e with the output o
  constant_each : (number part : ℕ) → Q (not_entry 0 ∷ []) → OfClaim Q (constant_claim number part)
  constant_each number part q = cond_both (eqb number 0 && eqb part 1) _ _ (OfClaim Q) (λ e. q) (λ e. tt)

  pub gate_each : (a r s part : ℕ) → Q (not_entry a ∷ wire_entry r ∷ []) → Q (not_entry a ∷ wire_entry s ∷ []) → Q (wire_entry a ∷ not_entry r ∷ not_entry s ∷ []) → OfClaim Q (gate_clauses a r s part)
  gate_each a r s part first second third =
      cond_both (eqb part 1) _ _ (OfClaim Q) (λ e. first)
      (λ e. cond_both (eqb part 2) _ _ (OfClaim Q) (λ e₁. second)
      (λ e₁. cond_both (eqb part 3) _ _ (OfClaim Q) (λ e₂. third) (λ e₂. tt)))

  pub output_each : (e o part : ℕ) → Q (not_entry e ∷ wire_entry o ∷ []) → Q (wire_entry e ∷ not_entry o ∷ []) → OfClaim Q (output_clauses e o part)
  output_each e o part first second =
      cond_both (eqb part 1) _ _ (OfClaim Q) (λ e₁. first)
      (λ e₁. cond_both (eqb part 2) _ _ (OfClaim Q) (λ e₂. second) (λ e₂. tt))

  module _ (t : RowsOfCircuit) where
    -- of each gate, and of each output
    abbrev pub OfGates : Type 0
    OfGates =
        (g part : ℕ) → 1 ≤ g → g ≤ t.head.gates →
        OfClaim Q (gate_clauses (2 * (t.head.inputs + g)) (get_or t.gates (g - 1) no_gate).left (get_or t.gates (g - 1) no_gate).right part)

    abbrev pub OfOutputs : Type 0
    OfOutputs =
        (k part : ℕ) → 1 ≤ k → k ≤ t.head.outputs →
        OfClaim Q (output_clauses (2 * (t.head.wires + k)) (get_or t.outputs (k - 1) 0) part)

    -- so of each premise
    pub wiring_each : Q (not_entry 0 ∷ []) → OfGates → OfOutputs → (class number part : ℕ) → OfClaim Q (wiring_claim t class number part)
    wiring_each constant gates outputs class number part =
        cond_both (eqb class 0) _ _ (OfClaim Q) (λ e. constant_each number part constant)
        (λ e. cond_both (eqb class 1) _ _ (OfClaim Q)
        (λ e₁. cond_both (leb 1 number && leb number t.head.gates) _ _ (OfClaim Q)
        (λ b.
        let p = and_parts (leb 1 number) (leb number t.head.gates) b in
        gates number part (leb-true 1 number p.0) (leb-true number t.head.gates p.1))
        (λ b. tt))
        (λ e₁. cond_both (eqb class 2) _ _ (OfClaim Q)
        (λ e₂. cond_both (leb 1 number && leb number t.head.outputs) _ _ (OfClaim Q)
        (λ b.
        let p = and_parts (leb 1 number) (leb number t.head.outputs) b in
        outputs number part (leb-true 1 number p.0) (leb-true number t.head.outputs p.1))
        (λ b. tt))
        (λ e₂. tt)))
