-- The circuit audit accepts exactly the tables that some accepted reading of some text leaves.
use Rattle.std.proofs.Common.{◌≡◌, ℕ, ◌+◌, ◌-◌, ◌*◌, ◌<◌, ◌≤◌, Bool, true, List, length, take, drop, Decides, sym, ap, ◌∙◌, subst, arith}
use Rattle.std.specs.List.{AllByRecursion}
use Rattle.std.proofs.lemmas.List.{length-take-le}
use Rattle.std.proofs.ByRecursion.{All-weaker}
use Rattle.std.proofs.lemmas.Bool.{and_parts, and_from}
use Rattle.std.proofs.lemmas.Bool.Decides.{Decides-at}
use Rattle.words.specs.Words.{words_from}
use Rattle.circuit.specs.declared.tables.CircuitHead.{CircuitHead}
use Rattle.circuit.specs.declared.tables.Gate.{Gate}
use Rattle.circuit.specs.Reading.{no_gate}
use Rattle.spelling.specs.CircuitGrammar.{Aig, wires_of, LawfulCircuit, OrderedFrom}
use Rattle.spelling.proofs.CircuitLaws.{head_of, head_same, CircuitWasRead, parts_run, parts_are}
use Rattle.audit.specs.CircuitAudit.{counts_lawful, outputs_lawful, zero_outputs, gates_lawful, zero_gates, circuit_lawful, LeavesCircuit, LeftByACircuitText}
use Rattle.audit.proofs.CircuitTables.{Counts, decides_counts, decides_outputs, decides_gates, outputs_zero, zeros_outputs, gates_zero, zeros_gates, table_padded, padded_front, padded_rest}
use Rattle.audit.proofs.CircuitTexts.{circuit_text}

-- what the audit's tests say
record Passed (h : CircuitHead) (os : List ℕ) (gs : List Gate) : Type 0 where
  counts : Counts h (length os) (length gs)
  outputs : AllByRecursion (λ o. o < 2 * h.wires + 2) (take h.outputs os)
  free_outputs : zero_outputs (drop h.outputs os) ≡ true
  gates : OrderedFrom h.inputs (take h.gates gs)
  free_gates : zero_gates (drop h.gates gs) ≡ true

module _ (h : CircuitHead) (os : List ℕ) (gs : List Gate) where
  passed : circuit_lawful h os gs ≡ true → Passed h os gs
  passed e =
      let a = and_parts _ (zero_gates (drop h.gates gs)) e in
      let b = and_parts _ (gates_lawful h.inputs (take h.gates gs)) a.0 in
      let c = and_parts _ (zero_outputs (drop h.outputs os)) b.0 in
      let d = and_parts (counts_lawful h (length os) (length gs)) (outputs_lawful (2 * h.wires + 2) (take h.outputs os)) c.0 in
      record {
        counts = (decides_counts h (length os) (length gs)).0 d.0;
        outputs = (decides_outputs (2 * h.wires + 2) (take h.outputs os)).0 d.1;
        free_outputs = c.1;
        gates = (decides_gates h.inputs (take h.gates gs)).0 b.1;
        free_gates = a.1;
      }

  passes : Passed h os gs → circuit_lawful h os gs ≡ true
  passes p =
      and_from _ _
      (and_from _ _
      (and_from _ _
      (and_from _ _ ((decides_counts h (length os) (length gs)).1 p.counts) ((decides_outputs (2 * h.wires + 2) (take h.outputs os)).1 p.outputs))
      p.free_outputs)
      ((decides_gates h.inputs (take h.gates gs)).1 p.gates))
      p.free_gates

  -- tables that pass are left by the text of their circuit
  abbrev held : Aig
  held = record { inputs = h.inputs; outputs = take h.outputs os; gates = take h.gates gs }

  module _ (p : Passed h os gs) where
    outputs_count : length (take h.outputs os) ≡ h.outputs
    outputs_count = length-take-le h.outputs os p.counts.outputs_fit

    gates_count : length (take h.gates gs) ≡ h.gates
    gates_count = length-take-le h.gates gs p.counts.gates_fit

    wires_count : h.wires ≡ wires_of held
    wires_count = p.counts.sum ∙ ap (λ n. h.inputs + n) (sym gates_count)

    held_lawful : LawfulCircuit held
    held_lawful =
        record {
          few_inputs = p.counts.few_inputs;
          few_outputs = omega (arith, p.counts.few_outputs, outputs_count);
          few_wires = omega (arith, p.counts.few_wires, wires_count);
          outputs = All-weaker (λ o. o < 2 * h.wires + 2) (λ o. o ≤ 2 * wires_of held + 1) (λ o l. omega (arith, wires_count)) (take h.outputs os) p.outputs;
          ordered = p.gates;
        }

    held_left : LeftByACircuitText h os gs
    held_left =
        let t = circuit_text held held_lawful in
        let r = parts_are held held_lawful (length os) (length gs) (length t.0) (omega (arith, outputs_count, p.counts.outputs_fit)) (omega (arith, gates_count, p.counts.gates_fit)) t.2 in (
          t.0,
          0,
          record {
            bytes = t.1;
            circuit = record { head = head_of held; outputs = held.outputs; gates = held.gates; place = r.0 };
            accepted = r.1;
            head = head_same h (wires_of held) (length held.outputs) (length held.gates) wires_count (sym outputs_count) (sym gates_count);
            outputs = table_padded 0 os h.outputs p.counts.outputs_fit (outputs_zero (drop h.outputs os) p.free_outputs);
            gates = table_padded no_gate gs h.gates p.counts.gates_fit (gates_zero (drop h.gates gs) p.free_gates);
          },
        )

  -- tables that a reading leaves pass
  module _ (text : List ℕ) (place : ℕ) (l : LeavesCircuit text place h os gs) where
    read : CircuitWasRead (words_from text place) (length os) (length gs) l.circuit
    read = parts_run (words_from text place) (length os) (length gs) (length text) l.circuit l.accepted

    head_is : h ≡ record { wires = l.circuit.head.inputs + length l.circuit.gates; inputs = l.circuit.head.inputs; outputs = length l.circuit.outputs; gates = length l.circuit.gates }
    head_is = l.head ∙ read.head

    wires_are : h.wires ≡ l.circuit.head.inputs + length l.circuit.gates
    wires_are = ap (λ (x : CircuitHead). x.wires) head_is

    inputs_are : h.inputs ≡ l.circuit.head.inputs
    inputs_are = ap (λ (x : CircuitHead). x.inputs) head_is

    outputs_are : h.outputs ≡ length l.circuit.outputs
    outputs_are = ap (λ (x : CircuitHead). x.outputs) head_is

    gates_are : h.gates ≡ length l.circuit.gates
    gates_are = ap (λ (x : CircuitHead). x.gates) head_is

    left_passed : Passed h os gs
    left_passed =
        let few_wires : l.circuit.head.inputs + length l.circuit.gates ≤ 60000 = read.lawful.few_wires in
        record {
          counts =
              record {
                few_inputs = omega (arith, inputs_are, read.lawful.few_inputs);
                few_wires = omega (arith, wires_are);
                few_outputs = omega (arith, outputs_are, read.lawful.few_outputs);
                few_gates = omega (arith, gates_are);
                sum = omega (arith, wires_are, inputs_are, gates_are);
                outputs_fit = omega (arith, outputs_are, read.outputs_fit);
                gates_fit = omega (arith, gates_are, read.gates_fit);
              };
          outputs =
              subst (AllByRecursion (λ o. o < 2 * h.wires + 2)) (sym (padded_front 0 os l.circuit.outputs (length os) h.outputs (sym outputs_are) l.outputs))
              (All-weaker (λ o. o ≤ 2 * (l.circuit.head.inputs + length l.circuit.gates) + 1) (λ o. o < 2 * h.wires + 2) (λ o b. omega (arith, wires_are)) l.circuit.outputs read.lawful.outputs);
          free_outputs = ap zero_outputs (padded_rest 0 os l.circuit.outputs (length os) h.outputs (sym outputs_are) l.outputs) ∙ zeros_outputs (length os - length l.circuit.outputs);
          gates =
              subst (OrderedFrom h.inputs) (sym (padded_front no_gate gs l.circuit.gates (length gs) h.gates (sym gates_are) l.gates))
              (subst (λ (i : ℕ). OrderedFrom i l.circuit.gates) (sym inputs_are) read.lawful.ordered);
          free_gates = ap zero_gates (padded_rest no_gate gs l.circuit.gates (length gs) h.gates (sym gates_are) l.gates) ∙ zeros_gates (length gs - length l.circuit.gates);
        }

pub circuit_audit : (h : CircuitHead) (os : List ℕ) (gs : List Gate) → Decides (circuit_lawful h os gs) (LeftByACircuitText h os gs)
circuit_audit h os gs = (λ e. held_left h os gs (passed h os gs e), λ l. passes h os gs (left_passed h os gs l.0 l.1 l.2))

-- so does any answer that is what the audit computes
pub circuit_audited : {r : Bool} (h : CircuitHead) (os : List ℕ) (gs : List Gate) → r ≡ circuit_lawful h os gs → Decides r (LeftByACircuitText h os gs)
circuit_audited {r} h os gs e = Decides-at r (circuit_lawful h os gs) e (circuit_audit h os gs)
