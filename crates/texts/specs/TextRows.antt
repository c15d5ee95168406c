-- The rows that a whole text is read into, long enough for every formula or circuit of its length.
use Rattle.std.specs.Prelude.{ℕ, ◌/◌, List, length, Ok, Err, Result}
use Rattle.base.specs.Causes.{Refusal}
use Rattle.words.specs.Tables.{padded}
use Rattle.circuit.specs.Reading.{Circuit, circuit_from, no_gate}
use Rattle.formula.specs.Reading.{Formula, formula_from, no_span, no_literal}
use Rattle.models.specs.HeldTables.{RowsOfFormula, RowsOfCircuit}

-- the rows of a formula that was read, with zeros behind its entries
abbrev pub rows_read : Result Formula Refusal → ℕ → Result RowsOfFormula Refusal
rows_read (Ok f) room =
    Ok (record {
      head = f.head;
      variables = f.variables;
      clauses = padded no_span f.clauses 16384;
      literals = padded no_literal f.literals room;
    })
rows_read (Err e) room = Err e

-- the rows of the formula that a text spells from its start on; a text of b bytes has at most b / 2 literals
abbrev pub formula_in : List ℕ → Result RowsOfFormula Refusal
formula_in text = rows_read (formula_from text 0 65535 16384 (length text / 2)) (length text / 2)

abbrev pub circuit_rows_read : Result Circuit Refusal → Result RowsOfCircuit Refusal
circuit_rows_read (Ok c) =
    Ok (record { head = c.head; outputs = padded 0 c.outputs 4096; gates = padded no_gate c.gates 60000 })
circuit_rows_read (Err e) = Err e

-- the rows of the circuit that a text spells from its start on
abbrev pub circuit_in : List ℕ → Result RowsOfCircuit Refusal
circuit_in text = circuit_rows_read (circuit_from text 0 4096 60000)
