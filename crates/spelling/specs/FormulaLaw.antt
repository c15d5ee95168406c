-- A reading accepts exactly what spells a lawful formula that fits the tables, and leaves that formula in them.
use Rattle.std.specs.Prelude.{◌≡◌, ℕ, ◌-◌, ◌≤◌, List, ◌∷◌, ◌++◌, length, Ok, Err, Result, slice_index_or}
use Rattle.base.specs.declared.faults.Fault.{Fault}
use Rattle.words.specs.Words.{Spelt, words_from, end_of}
use Rattle.words.specs.Tables.{padded}
use Rattle.formula.specs.declared.tables.Head.{Head}
use Rattle.formula.specs.Groups.{no_variable}
use Rattle.formula.specs.Reading.{Tables, no_span, no_literal}
use Rattle.spelling.specs.Dqbf.{Dqbf, Lawful, universals_of, existentials_of, record_of, literals_of, spans_from}
use Rattle.spelling.specs.FormulaGrammar.{Spells}

-- the tables are long enough for the formula
pub record Fits (f : Dqbf) (t : Tables) : Type 0 where
  pub variables : f.variables ≤ length t.variables
  pub clauses : length f.matrix ≤ length t.clauses
  pub literals : length (literals_of f.matrix) ≤ length t.literals

-- the tables and the head hold the formula, and zeros everywhere else
pub record Holds (f : Dqbf) (h : Head) (t : Tables) : Type 0 where
  pub head_variables : h.variables ≡ f.variables
  pub head_clauses : h.clauses ≡ length f.matrix
  pub head_universals : h.universals ≡ length (universals_of f.prefix)
  pub head_existentials : h.existentials ≡ length (existentials_of f.prefix)
  pub variables : (v : ℕ) → 1 ≤ v → v ≤ length t.variables → slice_index_or t.variables (v - 1) no_variable ≡ record_of f.prefix v
  pub clauses : t.clauses ≡ padded no_span (spans_from 0 f.matrix) (length t.clauses)
  pub literals : t.literals ≡ padded no_literal (literals_of f.matrix) (length t.literals)

-- q is the place behind the last word before these
abbrev pub Behind : List Spelt → List Spelt → ℕ → Type 0
Behind ws rest q = (read : List Spelt) × (w : Spelt) × (ws ≡ read ++ w ∷ rest) × (q ≡ end_of w)

-- What a reading's answer says of the words from its place on, where the tables then are t and the place q.
abbrev pub Accepts : List ℕ → ℕ → Result Head Fault → Tables → ℕ → Type 0
Accepts text p (Ok h) t q =
    (f : Dqbf) × (rest : List Spelt) × (length text ≤ 16777216) × Spells (words_from text p) f rest × Lawful f × Fits f t × Holds f h t
    × Behind (words_from text p) rest q
Accepts text p (Err e) t q =
    (f : Dqbf) (rest : List Spelt) → length text ≤ 16777216 → Spells (words_from text p) f rest → Lawful f → Fits f t → ⊥
