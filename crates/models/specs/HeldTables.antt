-- The rows of lent tables, the clauses in them, and the formulas and circuits that they are the tables of.
use Rattle.std.specs.Prelude.{ℕ, ◌-◌, ◌≤◌, min, Bool, cond, ◌&&◌, List, [], length, take, drop, ◌==◌, nat_le, slice_index_or}
use Rattle.audit.specs.CircuitAudit.{circuit_lawful}
use Rattle.audit.specs.FormulaAudit.{formula_lawful}
use Rattle.circuit.specs.declared.tables.CircuitHead.{CircuitHead}
use Rattle.circuit.specs.declared.tables.Gate.{Gate}
use Rattle.formula.specs.declared.tables.Clause.{Clause}
use Rattle.formula.specs.declared.tables.Head.{Head}
use Rattle.formula.specs.declared.tables.Literal.{Literal}
use Rattle.formula.specs.declared.tables.Variable.{Variable}
use Rattle.formula.specs.Groups.{no_variable}
use Rattle.formula.specs.Reading.{Tables, no_span}
use Rattle.spelling.specs.CircuitGrammar.{Aig, LawfulCircuit}
use Rattle.spelling.specs.CircuitLaw.{HoldsCircuit}
use Rattle.spelling.specs.Dqbf.{Dqbf, Lawful}
use Rattle.spelling.specs.FormulaLaw.{Fits, Holds}
use Rattle.models.specs.declared.tables.CircuitTables.{CircuitTables}
use Rattle.models.specs.declared.tables.FormulaTables.{FormulaTables}

-- what the tables of a formula hold
pub record RowsOfFormula : Type 0 where
  pub head : Head
  pub variables : List Variable
  pub clauses : List Clause
  pub literals : List Literal

-- what the tables of a circuit hold
pub record RowsOfCircuit : Type 0 where
  pub head : CircuitHead
  pub outputs : List ℕ
  pub gates : List Gate

abbrev pub formula_rows : FormulaTables → RowsOfFormula
formula_rows t =
    record { head = t.head; variables = t.variables.now; clauses = t.clauses.now; literals = t.literals.now }

abbrev pub circuit_rows : CircuitTables → RowsOfCircuit
circuit_rows t = record { head = t.head; outputs = t.outputs.now; gates = t.gates.now }

-- whether an accepted reading leaves these tables
abbrev pub lawful_formula : RowsOfFormula → Bool
lawful_formula t = formula_lawful t.head t.variables t.clauses t.literals

abbrev pub lawful_circuit : RowsOfCircuit → Bool
lawful_circuit t = circuit_lawful t.head t.outputs t.gates

-- the record of variable v; 0 is none
abbrev pub record_at : List Variable → ℕ → Variable
record_at vs v = cond (v == 0) no_variable (slice_index_or vs (v - 1) no_variable)

abbrev pub span_at : List Clause → ℕ → Clause
span_at cs j = slice_index_or cs (j - 1) no_span

-- the literals of clause j, of which no clause has more than 1,024; none where there is no such clause
abbrev pub clause_of : RowsOfFormula → ℕ → List Literal
clause_of t j =
    cond (nat_le 1 j && nat_le j t.head.clauses)
    (take (min (span_at t.clauses j).len 1024) (drop (span_at t.clauses j).first t.literals)) []

abbrev pub tables_of : RowsOfFormula → Tables
tables_of t = record { variables = t.variables; clauses = t.clauses; literals = t.literals }

-- the circuit in the tables
abbrev pub aig_of : RowsOfCircuit → Aig
aig_of t = record { inputs = t.head.inputs; outputs = take t.head.outputs t.outputs; gates = take t.head.gates t.gates }

-- the tables are those of this lawful formula
pub record Held (t : RowsOfFormula) (f : Dqbf) : Type 0 where
  pub lawful : Lawful f
  pub fits : Fits f (tables_of t)
  pub holds : Holds f t.head (tables_of t)

-- the tables are those of this lawful circuit
pub record HeldCircuit (t : RowsOfCircuit) (c : Aig) : Type 0 where
  pub lawful : LawfulCircuit c
  pub output_room : length c.outputs ≤ length t.outputs
  pub gate_room : length c.gates ≤ length t.gates
  pub holds : HoldsCircuit c t.head t.outputs t.gates
