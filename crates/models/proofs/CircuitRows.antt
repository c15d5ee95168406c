-- What the audit of a circuit's tables says of the circuit in them.
use Rattle.std.proofs.Common.{◌≡◌, ℕ, ◌+◌, ◌*◌, ◌<◌, ◌≤◌, true, length, take, drop, sym, ap, ◌∙◌, arith}
use Rattle.std.proofs.ByRecursion.{All-weaker}
use Rattle.std.proofs.lemmas.List.{length-take-le}
use Rattle.std.proofs.lemmas.Bool.{and_parts}
use Rattle.spelling.specs.CircuitGrammar.{wires_of, LawfulCircuit}
use Rattle.audit.specs.CircuitAudit.{counts_lawful, outputs_lawful, gates_lawful, zero_outputs, zero_gates}
use Rattle.audit.proofs.CircuitTables.{Counts, decides_counts, decides_outputs, decides_gates}
use Rattle.models.specs.HeldTables.{RowsOfCircuit, lawful_circuit, aig_of}

-- The circuit in lawful tables is lawful, and as large as the head says.
pub record Rows (t : RowsOfCircuit) : Type 0 where
  pub counts : Counts t.head (length t.outputs) (length t.gates)
  pub outputs : length (aig_of t).outputs ≡ t.head.outputs
  pub gates : length (aig_of t).gates ≡ t.head.gates
  pub wires : t.head.wires ≡ wires_of (aig_of t)
  pub lawful : LawfulCircuit (aig_of t)

-- tables that pass the audit
pub lawful_rows : (t : RowsOfCircuit) → lawful_circuit t ≡ true → Rows t
lawful_rows t e =
    let h = t.head in
    let os = t.outputs in
    let gs = t.gates in
    let a = and_parts _ (zero_gates (drop h.gates gs)) e in
    let b = and_parts _ (gates_lawful h.inputs (take h.gates gs)) a.0 in
    let c = and_parts _ (zero_outputs (drop h.outputs os)) b.0 in
    let d = and_parts (counts_lawful h (length os) (length gs)) (outputs_lawful (2 * h.wires + 2) (take h.outputs os)) c.0 in
    let counts = (decides_counts h (length os) (length gs)).0 d.0 in
    let outputs = length-take-le h.outputs os counts.outputs_fit in
    let gates = length-take-le h.gates gs counts.gates_fit in
    let wires : h.wires ≡ wires_of (aig_of t) = counts.sum ∙ ap (λ n. h.inputs + n) (sym gates) in
    let bound : (o : ℕ) → o < 2 * h.wires + 2 → o ≤ 2 * wires_of (aig_of t) + 1 = λ o l. omega arith in
    record {
      counts = counts;
      outputs = outputs;
      gates = gates;
      wires = wires;
      lawful =
          record {
            few_inputs = counts.few_inputs;
            few_outputs = omega arith;
            few_wires = omega (arith, counts.few_wires);
            outputs = All-weaker (λ o. o < 2 * h.wires + 2) (λ o. o ≤ 2 * wires_of (aig_of t) + 1) bound (take h.outputs os) ((decides_outputs (2 * h.wires + 2) (take h.outputs os)).0 d.1);
            ordered = (decides_gates h.inputs (take h.gates gs)).0 b.1;
          };
    }
