-- Tables that the audits accept are those of a lawful formula, and of a lawful circuit.
use Rattle.std.proofs.Common.{◌≡◌, ℕ, ◌-◌, List, length, get_or, take, sym, ap, ◌∙◌}
use Rattle.words.specs.Words.{words_from}
use Rattle.words.specs.Tables.{padded}
use Rattle.circuit.specs.declared.tables.CircuitHead.{CircuitHead}
use Rattle.circuit.specs.declared.tables.Gate.{Gate}
use Rattle.circuit.specs.Reading.{no_gate}
use Rattle.formula.specs.declared.tables.Clause.{Clause}
use Rattle.formula.specs.declared.tables.Head.{Head}
use Rattle.formula.specs.declared.tables.Literal.{Literal}
use Rattle.formula.specs.declared.tables.Variable.{Variable}
use Rattle.formula.specs.Groups.{no_variable}
use Rattle.formula.specs.Reading.{no_span, no_literal}
use Rattle.spelling.specs.CircuitGrammar.{Aig}
use Rattle.spelling.specs.Dqbf.{Dqbf}
use Rattle.spelling.proofs.CircuitLaws.{parts_run}
use Rattle.spelling.proofs.FormulaLaws.{parts_sound}
use Rattle.spelling.proofs.ProperWords.{words_proper}
use Rattle.audit.specs.CircuitAudit.{LeftByACircuitText}
use Rattle.audit.specs.FormulaAudit.{LeftByAFormulaText}
use Rattle.audit.proofs.CircuitTables.{padded_front}
use Rattle.models.specs.HeldTables.{RowsOfFormula, RowsOfCircuit, Held, HeldCircuit, aig_of}

-- what a reading of a formula leaves
pub left_held : (t : RowsOfFormula) → LeftByAFormulaText t.head t.variables t.clauses t.literals → (f : Dqbf) × Held t f
left_held t (text, place, l) =
    let variable_room = length t.variables in
    let clause_room = length t.clauses in
    let literal_room = length t.literals in
    let (f, rest, read) = parts_sound (words_from text place) variable_room clause_room literal_room (length text) l.formula (words_proper text place) l.accepted in (
      f,
      record {
        lawful = read.lawful;
        fits = record { variables = read.variables_fit; clauses = read.clauses_fit; literals = read.literals_fit };
        holds =
            record {
              head_variables = ap (λ (h : Head). h.variables) l.head ∙ read.head_variables;
              head_clauses = ap (λ (h : Head). h.clauses) l.head ∙ read.head_clauses;
              head_universals = ap (λ (h : Head). h.universals) l.head ∙ read.head_universals;
              head_existentials = ap (λ (h : Head). h.existentials) l.head ∙ read.head_existentials;
              variables = λ v low high. ap (λ (vs : List Variable). get_or vs (v - 1) no_variable) l.variables ∙ read.records v low high;
              clauses = l.clauses ∙ ap (λ (cs : List Clause). padded no_span cs clause_room) read.clauses;
              literals = l.literals ∙ ap (λ (ls : List Literal). padded no_literal ls literal_room) read.literals;
            };
      },
    )

-- what a reading of a circuit leaves
pub left_held_circuit : (t : RowsOfCircuit) → LeftByACircuitText t.head t.outputs t.gates → (c : Aig) × HeldCircuit t c
left_held_circuit t (text, place, l) =
    let read = parts_run (words_from text place) (length t.outputs) (length t.gates) (length text) l.circuit l.accepted in (
      record { inputs = l.circuit.head.inputs; outputs = l.circuit.outputs; gates = l.circuit.gates },
      record {
        lawful = read.lawful;
        output_room = read.outputs_fit;
        gate_room = read.gates_fit;
        holds = record { head = l.head ∙ read.head; outputs = l.outputs; gates = l.gates };
      },
    )

-- the circuit in the tables is the one that they hold
pub aig_held : {t : RowsOfCircuit} {c : Aig} → HeldCircuit t c → aig_of t ≡ c
aig_held {t} {c} held =
    let h = t.head in
    let inputs : h.inputs ≡ c.inputs = ap (λ (x : CircuitHead). x.inputs) held.holds.head in
    let outputs : take h.outputs t.outputs ≡ c.outputs = padded_front 0 t.outputs c.outputs (length t.outputs) h.outputs (sym (ap (λ (x : CircuitHead). x.outputs) held.holds.head)) held.holds.outputs in
    let gates : take h.gates t.gates ≡ c.gates = padded_front no_gate t.gates c.gates (length t.gates) h.gates (sym (ap (λ (x : CircuitHead). x.gates) held.holds.head)) held.holds.gates in
    let with_inputs : ℕ → Aig = λ i. record { inputs = i; outputs = take h.outputs t.outputs; gates = take h.gates t.gates } in
    let with_outputs : List ℕ → Aig = λ os. record { inputs = c.inputs; outputs = os; gates = take h.gates t.gates } in
    let with_gates : List Gate → Aig = λ gs. record { inputs = c.inputs; outputs = c.outputs; gates = gs } in
    ap with_inputs inputs ∙ ap with_outputs outputs ∙ ap with_gates gates
