use Rattle.std.proofs.Common.{◌≡◌, ℕ, false, List, length, replicate, Ok, Err, Result, sym, ap, ap₂, ◌∙◌, arith, rules}
use Rattle.std.specs.Result.{is_err, IfOk}
use Rattle.base.specs.declared.faults.Fault.{Fault}
use Rattle.words.proofs.TableLaws.{padded_is}
use Rattle.circuit.specs.declared.tables.CircuitHead.{CircuitHead}
use Rattle.circuit.specs.declared.tables.Gate.{Gate}
use Rattle.circuit.specs.Reading.{no_gate, circuit_from, told_circuit, Filled, outputs_read, gates_read}
use Rattle.circuit.proofs.read.read_or_clear.Goals as goal

-- tables of zeros, to whose front a circuit was read
module _ (text : List ℕ) (p q n m : ℕ) (was is : List ℕ) (gates_were gates_are : List Gate) (zero : was ≡ replicate n 0) (none : gates_were ≡ replicate m no_gate) (room : length was ≡ n) (gate_room : length gates_were ≡ m) (same : length is ≡ length was) (gates_same : length gates_are ≡ length gates_were) where
  tables_are : (r : Result CircuitHead Fault) → is_err r ≡ false → told_circuit r is gates_are q ≡ circuit_from text p (length was) (length gates_were) → IfOk r (λ h. Filled h was is gates_were gates_are) → (is ≡ outputs_read (circuit_from text p n m) n) × (gates_are ≡ gates_read (circuit_from text p n m) m)
  tables_are (Ok h) e t f =
      let read = t ∙ ap₂ (circuit_from text p) room gate_room in (
        padded_is 0 h.outputs n is was zero f.output_room same f.outputs_kept ∙ ap (λ c. outputs_read c n) read,
        padded_is no_gate h.gates m gates_are gates_were none f.gate_room gates_same f.gates_kept ∙ ap (λ c. gates_read c m) read,
      )
  tables_are (Err f) e t g = absurd (cc)

pub returns-else-is_err : goal.returns-else-is_err
returns-else-is_err c =
    let tables =
    tables_are c.args.text.now c.args.place.now.at c.read_into-read.new.place.at (length c.args.outputs.now) (length c.args.gates.now)
    c.clear.new.outputs c.read_into-read.new.outputs c.clear.new.gates c.read_into-read.new.gates
    c.clear.ensures.outputs c.clear.ensures.gates (omega arith) (omega arith) (omega arith) (omega arith)
    c.read_into-read.result (sym c.is_err.ensures.value ∙ c.if-is_err.false) c.read_into-read.ensures.is c.read_into-read.ensures.filled
    in
    record { head = search rules; outputs = tables.0; gates = tables.1; place = search rules }
