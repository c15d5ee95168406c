-- Texts that spell a formula or a circuit, and the rows of code that hold them.
use Rattle.std.specs.Prelude.{ℕ, ◌≤◌, List, length, Ok, Err, vec_items, Result}
use Rattle.base.specs.declared.faults.Fault.{Fault}
use Rattle.base.specs.Causes.{Refusal, told}
use Rattle.words.specs.Words.{Spelt, words_from}
use Rattle.spelling.specs.CircuitGrammar.{Aig, LawfulCircuit, SpellsCircuit}
use Rattle.spelling.specs.Dqbf.{Dqbf, Lawful}
use Rattle.spelling.specs.FormulaGrammar.{Spells}
use Rattle.models.specs.HeldTables.{RowsOfFormula, RowsOfCircuit, Held, HeldCircuit}
use Rattle.texts.specs.declared.rows.FormulaRows.{FormulaRows}
use Rattle.texts.specs.declared.rows.CircuitRows.{CircuitRows}

-- the text, of at most 16,777,216 bytes, spells this lawful formula from its start on
pub record Spelled (text : List ℕ) (f : Dqbf) : Type 0 where
  pub bytes : length text ≤ 16777216
  pub lawful : Lawful f
  pub rest : List Spelt
  pub spells : Spells (words_from text 0) f rest

-- the same for a circuit
pub record SpelledCircuit (text : List ℕ) (c : Aig) : Type 0 where
  pub bytes : length text ≤ 16777216
  pub lawful : LawfulCircuit c
  pub rest : List Spelt
  pub spells : SpellsCircuit (words_from text 0) c rest

abbrev pub rows_of : FormulaRows → RowsOfFormula
rows_of r =
    record { head = r.head; variables = vec_items r.variables; clauses = vec_items r.clauses; literals = vec_items r.literals }

abbrev pub circuit_rows_of : CircuitRows → RowsOfCircuit
circuit_rows_of r = record { head = r.head; outputs = vec_items r.outputs; gates = vec_items r.gates }

abbrev pub told_rows : Result FormulaRows Fault → Result RowsOfFormula Refusal
told_rows (Ok r) = Ok (rows_of r)
told_rows (Err e) = Err (told e)

abbrev pub told_circuit_rows : Result CircuitRows Fault → Result RowsOfCircuit Refusal
told_circuit_rows (Ok r) = Ok (circuit_rows_of r)
told_circuit_rows (Err e) = Err (told e)

-- Rows that are read hold a formula that the text spells; of a text that is refused, none.
abbrev pub ReadsFormula : List ℕ → Result RowsOfFormula Refusal → Type 0
ReadsFormula text (Ok t) = (f : Dqbf) × Spelled text f × Held t f
ReadsFormula text (Err e) = (f : Dqbf) → Spelled text f → ⊥

abbrev pub ReadsCircuit : List ℕ → Result RowsOfCircuit Refusal → Type 0
ReadsCircuit text (Ok t) = (c : Aig) × SpelledCircuit text c × HeldCircuit t c
ReadsCircuit text (Err e) = (c : Aig) → SpelledCircuit text c → ⊥
