-- Texts, each with what its reading has to answer: a table that is held to the readers' definitions.
use Rattle.std.specs.Prelude.{ℕ, ◌/◌, Bool, true, false, cond, ◌&&◌, List, [], ◌∷◌, ◌++◌, Ok, Err, codes, Result, ◌==◌}
use Prim.Native.String.{String}
use Rattle.base.specs.declared.values.ValueWord.{ValueWord}
use Rattle.base.specs.Causes.{Refusal}
use Rattle.words.specs.Due.{same}
use Rattle.formula.specs.declared.tables.Kind.{Kind}
use Rattle.formula.specs.declared.tables.Kind.TheVariants as kind
use Rattle.formula.specs.declared.tables.Variable.{Variable}
use Rattle.formula.specs.declared.tables.Clause.{Clause}
use Rattle.formula.specs.declared.tables.Literal.{Literal}
use Rattle.formula.specs.Reading.{Formula, formula_from}
use Rattle.circuit.specs.declared.tables.Gate.{Gate}
use Rattle.circuit.specs.Reading.{Circuit, circuit_from}
use Rattle.reach.specs.Reach.{wire_reach, reaches_from}

-- The reader that is asked, with the lengths of the tables that it is lent: variables, clauses and literals, or
-- outputs and gates.
pub data Reader : Type 0 where
  formula : ℕ → ℕ → ℕ → Reader
  circuit : ℕ → ℕ → Reader

-- A refusal's cause, place and layer; or the place behind the last word, and row by row what the tables hold:
-- of a formula the head (V, C, n, E), each variable (kind, position, word), each clause (first, length) and each
-- literal (variable, 1 if negative); of a circuit the head (M, I, O, A), the outputs, each gate's two right literals
-- and each output's reach.
pub data Outcome : Type 0 where
  refuses : ℕ → ℕ → ℕ → Outcome
  accepts : ℕ → List (List ℕ) → Outcome

-- A text that is read from a place on, and what has to come of it.
pub record Case : Type 0 where
  pub reader : Reader
  pub text : List ℕ
  pub place : ℕ
  pub outcome : Outcome

abbrev pub kind_number : Kind → ℕ
kind_number kind.Undeclared = 0
kind_number kind.Universal = 1
kind_number kind.Existential = 2

abbrev pub variable_numbers : List Variable → List ℕ
variable_numbers [] = []
variable_numbers (v ∷ vs) = kind_number v.kind ∷ v.position ∷ v.dependencies.bits ∷ variable_numbers vs

abbrev pub clause_numbers : List Clause → List ℕ
clause_numbers [] = []
clause_numbers (c ∷ cs) = c.first ∷ c.len ∷ clause_numbers cs

abbrev pub literal_numbers : List Literal → List ℕ
literal_numbers [] = []
literal_numbers (l ∷ ls) = l.variable ∷ cond l.negative 1 0 ∷ literal_numbers ls

abbrev pub gate_numbers : List Gate → List ℕ
gate_numbers [] = []
gate_numbers (g ∷ gs) = g.left ∷ g.right ∷ gate_numbers gs

-- the reaches of these outputs' wires, in a circuit with i inputs
abbrev pub output_reaches : ℕ → List ValueWord → List ℕ → List ℕ
output_reaches i reaches [] = []
output_reaches i reaches (o ∷ os) = (wire_reach i reaches (o / 2)).bits ∷ output_reaches i reaches os

abbrev pub formula_outcome : Result Formula Refusal → Outcome
formula_outcome (Ok f) =
    accepts f.place
    ((f.head.variables ∷ f.head.clauses ∷ f.head.universals ∷ f.head.existentials ∷ [])
    ∷ variable_numbers f.variables ∷ clause_numbers f.clauses ∷ literal_numbers f.literals ∷ [])
formula_outcome (Err e) = refuses e.cause e.place e.layer

abbrev pub circuit_outcome : Result Circuit Refusal → Outcome
circuit_outcome (Ok c) =
    accepts c.place
    ((c.head.wires ∷ c.head.inputs ∷ c.head.outputs ∷ c.head.gates ∷ [])
    ∷ c.outputs ∷ gate_numbers c.gates ∷ output_reaches c.head.inputs (reaches_from c.head.inputs [] c.gates) c.outputs ∷ [])
circuit_outcome (Err e) = refuses e.cause e.place e.layer

-- what the definitions answer
abbrev pub outcome_of : Reader → List ℕ → ℕ → Outcome
outcome_of (formula v c l) text place = formula_outcome (formula_from text place v c l)
outcome_of (circuit o g) text place = circuit_outcome (circuit_from text place o g)

abbrev pub same_rows : List (List ℕ) → List (List ℕ) → Bool
same_rows [] [] = true
same_rows [] (y ∷ ys) = false
same_rows (x ∷ xs) [] = false
same_rows (x ∷ xs) (y ∷ ys) = same x y && same_rows xs ys

abbrev pub equal : Outcome → Outcome → Bool
equal (refuses c p l) (refuses c' p' l') = c == c' && p == p' && l == l'
equal (refuses c p l) (accepts p' rows) = false
equal (accepts p rows) (refuses c p' l) = false
equal (accepts p rows) (accepts p' rows') = p == p' && same_rows rows rows'

abbrev pub shows : Case → Bool
shows c = equal (outcome_of c.reader c.text c.place) c.outcome

abbrev pub all : (Case → Bool) → List Case → Bool
all f [] = true
all f (c ∷ cs) = f c && all f cs

-- a case by its reading place, reader, text and outcome; each character of the text stands for a byte
abbrev pub from : ℕ → Reader → String → Outcome → Case
from place r text o = record { reader = r; text = codes text; place = place; outcome = o }

abbrev pub small : Reader
small = formula 4 4 4

abbrev pub few : Reader
few = circuit 4 4

abbrev pub formulas : List Case
formulas =
    -- The examples that show each kind of outcome.
    from 0 small "p cnf 3 0 a 1 0 a 3 0 d 2 3 0" (accepts 29 ((3 ∷ 0 ∷ 2 ∷ 1 ∷ []) ∷ (1 ∷ 1 ∷ 0 ∷ 2 ∷ 1 ∷ 2 ∷ 1 ∷ 2 ∷ 0 ∷ 0 ∷ 0 ∷ 0 ∷ []) ∷ [] ∷ [] ∷ []))
    ∷ from 0 small "p cnf 2 1 a 1 0 e 2 0 1 -1 0" (refuses 7 24 2)
    ∷ from 0 small "p cnf 2 2 a 1 0 e 2 0 1 -2 0 -1 2 0" (accepts 35 ((2 ∷ 2 ∷ 1 ∷ 1 ∷ []) ∷ (1 ∷ 1 ∷ 0 ∷ 2 ∷ 1 ∷ 1 ∷ 0 ∷ 0 ∷ 0 ∷ 0 ∷ 0 ∷ 0 ∷ []) ∷ (0 ∷ 2 ∷ 2 ∷ 2 ∷ []) ∷ (1 ∷ 0 ∷ 2 ∷ 1 ∷ 1 ∷ 1 ∷ 2 ∷ 0 ∷ []) ∷ []))
    -- Words where a number is due.
    ∷ from 0 small "p cnf -0 0" (refuses 2 6 1)
    ∷ from 0 small "p cnf 00 0" (refuses 2 6 1)
    ∷ from 0 small "p cnf 01 0" (refuses 2 6 1)
    ∷ from 0 small "p cnf +1 0" (refuses 2 6 1)
    ∷ from 0 small "p cnf - 0" (refuses 2 6 1)
    ∷ from 0 small "p cnf 1x 0" (refuses 2 6 1)
    ∷ from 0 small "p cnf -1 0" (refuses 2 6 1)
    ∷ from 0 small "p cnf 1234567890 0" (refuses 3 6 1)
    ∷ from 0 small "p cnf 0123456789 0" (refuses 2 6 1)
    ∷ from 0 small "p cnf -1234567890 0" (refuses 2 6 1)
    ∷ from 0 small "p cnf x 0" (refuses 2 6 1)
    ∷ from 0 small "p cnf 123456789 0" (refuses 5 6 2)
    ∷ from 0 small "p cnf 1 -1" (refuses 2 8 1)
    ∷ from 0 small "p cnf 1 0 a -1 0" (refuses 2 12 1)
    ∷ from 0 small "p cnf 1 0 d -1 0" (refuses 2 12 1)
    ∷ from 0 small "p cnf 1 0 e 1234567890 0" (refuses 3 12 1)
    ∷ from 0 small "p cnf 1 0 e -1234567890 0" (refuses 2 12 1)
    -- Words where a literal is due.
    ∷ from 0 small "p cnf 1 1 e 1 0 -0 0" (refuses 2 16 1)
    ∷ from 0 small "p cnf 1 1 e 1 0 00 0" (refuses 2 16 1)
    ∷ from 0 small "p cnf 1 1 e 1 0 -01 0" (refuses 2 16 1)
    ∷ from 0 small "p cnf 1 1 e 1 0 +1 0" (refuses 2 16 1)
    ∷ from 0 small "p cnf 1 1 e 1 0 - 0" (refuses 2 16 1)
    ∷ from 0 small "p cnf 1 1 e 1 0 --1 0" (refuses 2 16 1)
    ∷ from 0 small "p cnf 1 1 e 1 0 1x 0" (refuses 2 16 1)
    ∷ from 0 small "p cnf 1 1 e 1 0 x 0" (refuses 2 16 1)
    ∷ from 0 small "p cnf 1 1 e 1 0 1234567890 0" (refuses 3 16 1)
    ∷ from 0 small "p cnf 1 1 e 1 0 -1234567890 0" (refuses 3 16 1)
    ∷ from 0 small "p cnf 1 1 e 1 0 0123456789 0" (refuses 2 16 1)
    ∷ from 0 small "p cnf 1 1 e 1 0 -0123456789 0" (refuses 2 16 1)
    ∷ from 0 small "p cnf 1 1 e 1 0 -12345678901x 0" (refuses 2 16 1)
    -- Blanks, and bytes that are none.
    ∷ from 0 small "p\tcnf\r\n1\n0\r\n\te\r1\t0\n" (accepts 18 ((1 ∷ 0 ∷ 0 ∷ 1 ∷ []) ∷ (2 ∷ 1 ∷ 0 ∷ 0 ∷ 0 ∷ 0 ∷ 0 ∷ 0 ∷ 0 ∷ 0 ∷ 0 ∷ 0 ∷ []) ∷ [] ∷ [] ∷ []))
    ∷ from 0 small "p\u{c}cnf 1 0" (refuses 2 0 1)
    ∷ from 0 small "p\u{b} cnf 1 0" (refuses 2 0 1)
    ∷ from 0 small "p\0 cnf 1 0" (refuses 2 0 1)
    ∷ from 0 small "p cnf 1ÿ 0" (refuses 2 6 1)
    ∷ from 0 small "p cnf 1 1 \0 0" (refuses 2 10 1)
    ∷ from 0 small "p cnf 1 1 \u{a0}" (refuses 2 10 1)
    -- Names.
    ∷ from 0 small "P cnf 1 0" (refuses 2 0 1)
    ∷ from 0 small "pp cnf 1 0" (refuses 2 0 1)
    ∷ from 0 small "1 cnf 1 0" (refuses 2 0 1)
    ∷ from 0 small "p CNF 1 0" (refuses 2 2 1)
    ∷ from 0 small "p cn 1 0" (refuses 2 2 1)
    ∷ from 0 small "p cnff 1 0" (refuses 2 2 1)
    ∷ from 0 small "p 1 1 0" (refuses 2 2 1)
    ∷ from 0 small "p cnf 1 1 ae 1 0" (refuses 2 10 1)
    ∷ from 0 small "p cnf 1 1 A 1 0" (refuses 2 10 1)
    ∷ from 0 small "p cnf 1 1 b 1 0" (refuses 2 10 1)
    ∷ from 0 small "p cnf 1 0 a e 1 0" (refuses 2 12 1)
    ∷ from 0 small "p cnf 1 2 0 a 1 0 0" (refuses 2 12 1)
    -- Texts that end too early.
    ∷ from 0 small "" (refuses 4 0 1)
    ∷ from 0 small "   " (refuses 4 3 1)
    ∷ from 0 small "p" (refuses 4 1 1)
    ∷ from 0 small "p cnf" (refuses 4 5 1)
    ∷ from 0 small "p cnf 1" (refuses 4 7 1)
    ∷ from 0 small "p cnf 1 1" (refuses 4 9 1)
    ∷ from 0 small "p cnf 1 0 a" (refuses 4 11 1)
    ∷ from 0 small "p cnf 1 0 a 1" (refuses 4 13 1)
    ∷ from 0 small "p cnf 1 0 d" (refuses 4 11 1)
    ∷ from 0 small "p cnf 1 0 d 1 " (refuses 4 14 1)
    ∷ from 0 small "p cnf 1 1 e 1 0 1 " (refuses 4 18 1)
    -- Reading places.
    ∷ from 9 small "p cnf 1 0" (refuses 4 9 1)
    ∷ from 10 small "p cnf 1 0" (refuses 4 9 1)
    ∷ from 18446744073709551615 small "p cnf 1 0" (refuses 4 9 1)
    ∷ from 4 small "junk p cnf 1 0 a 1 0 end" (accepts 20 ((1 ∷ 0 ∷ 1 ∷ 0 ∷ []) ∷ (1 ∷ 1 ∷ 0 ∷ 0 ∷ 0 ∷ 0 ∷ 0 ∷ 0 ∷ 0 ∷ 0 ∷ 0 ∷ 0 ∷ []) ∷ [] ∷ [] ∷ []))
    ∷ from 5 small "junk p cnf 1 0 a 1 0 end" (accepts 20 ((1 ∷ 0 ∷ 1 ∷ 0 ∷ []) ∷ (1 ∷ 1 ∷ 0 ∷ 0 ∷ 0 ∷ 0 ∷ 0 ∷ 0 ∷ 0 ∷ 0 ∷ 0 ∷ 0 ∷ []) ∷ [] ∷ [] ∷ []))
    ∷ from 1 small "pp cnf 1 0" (accepts 10 ((1 ∷ 0 ∷ 0 ∷ 0 ∷ []) ∷ (0 ∷ 0 ∷ 0 ∷ 0 ∷ 0 ∷ 0 ∷ 0 ∷ 0 ∷ 0 ∷ 0 ∷ 0 ∷ 0 ∷ []) ∷ [] ∷ [] ∷ []))
    ∷ from 5 small "junk p cnf 0 0" (refuses 5 11 2)
    -- Groups of declarations.
    ∷ from 0 small "p cnf 4 0 e 1 0 a 2 0 d 3 2 0 e 4 0" (accepts 35 ((4 ∷ 0 ∷ 1 ∷ 3 ∷ []) ∷ (2 ∷ 1 ∷ 0 ∷ 1 ∷ 1 ∷ 0 ∷ 2 ∷ 2 ∷ 1 ∷ 2 ∷ 3 ∷ 1 ∷ []) ∷ [] ∷ [] ∷ []))
    ∷ from 0 small "p cnf 1 0 a 0 e 0 a 0" (accepts 21 ((1 ∷ 0 ∷ 0 ∷ 0 ∷ []) ∷ (0 ∷ 0 ∷ 0 ∷ 0 ∷ 0 ∷ 0 ∷ 0 ∷ 0 ∷ 0 ∷ 0 ∷ 0 ∷ 0 ∷ []) ∷ [] ∷ [] ∷ []))
    ∷ from 0 small "p cnf 2 0 a 1 0 d 2 0" (accepts 21 ((2 ∷ 0 ∷ 1 ∷ 1 ∷ []) ∷ (1 ∷ 1 ∷ 0 ∷ 2 ∷ 1 ∷ 0 ∷ 0 ∷ 0 ∷ 0 ∷ 0 ∷ 0 ∷ 0 ∷ []) ∷ [] ∷ [] ∷ []))
    ∷ from 0 small "p cnf 4 0 a 1 2 0 a 3 0 e 4 0" (accepts 29 ((4 ∷ 0 ∷ 3 ∷ 1 ∷ []) ∷ (1 ∷ 1 ∷ 0 ∷ 1 ∷ 2 ∷ 0 ∷ 1 ∷ 3 ∷ 0 ∷ 2 ∷ 1 ∷ 7 ∷ []) ∷ [] ∷ [] ∷ []))
    ∷ from 0 small "p cnf 4 0 a 1 2 3 0 d 4 3 1 0" (accepts 29 ((4 ∷ 0 ∷ 3 ∷ 1 ∷ []) ∷ (1 ∷ 1 ∷ 0 ∷ 1 ∷ 2 ∷ 0 ∷ 1 ∷ 3 ∷ 0 ∷ 2 ∷ 1 ∷ 5 ∷ []) ∷ [] ∷ [] ∷ []))
    ∷ from 0 small "p cnf 3 0 d 0" (refuses 6 12 2)
    ∷ from 0 small "p cnf 3 0 d 4 0" (refuses 6 12 2)
    ∷ from 0 small "p cnf 3 0 a 1 0 d 2 2 0" (refuses 6 20 2)
    ∷ from 0 small "p cnf 3 0 a 1 0 d 2 4 0" (refuses 6 20 2)
    ∷ from 0 small "p cnf 3 0 a 1 0 d 2 3 0" (refuses 6 20 2)
    ∷ from 0 small "p cnf 3 0 e 1 0 d 2 1 0" (refuses 6 20 2)
    ∷ from 0 small "p cnf 3 0 d 2 1 0 a 1 0" (refuses 6 14 2)
    ∷ from 0 small "p cnf 3 0 a 1 0 d 2 1 1 0" (refuses 7 22 2)
    ∷ from 0 small "p cnf 3 0 a 1 0 d 1 0" (refuses 7 18 2)
    ∷ from 0 small "p cnf 3 0 a 1 1 0" (refuses 7 14 2)
    ∷ from 0 small "p cnf 3 0 a 1 0 e 1 0" (refuses 7 18 2)
    ∷ from 0 small "p cnf 3 0 e 1 0 a 1 0" (refuses 7 18 2)
    ∷ from 0 small "p cnf 3 0 d 1 0 e 1 0" (refuses 7 18 2)
    ∷ from 0 small "p cnf 3 0 a 4 0" (refuses 6 12 2)
    ∷ from 0 small "p cnf 3 0 e 4 0" (refuses 6 12 2)
    -- Clauses, and what stands behind the last one.
    ∷ from 0 small "p cnf 1 2 0 0" (accepts 13 ((1 ∷ 2 ∷ 0 ∷ 0 ∷ []) ∷ (0 ∷ 0 ∷ 0 ∷ 0 ∷ 0 ∷ 0 ∷ 0 ∷ 0 ∷ 0 ∷ 0 ∷ 0 ∷ 0 ∷ []) ∷ (0 ∷ 0 ∷ 0 ∷ 0 ∷ []) ∷ [] ∷ []))
    ∷ from 0 small "p cnf 2 2 e 1 2 0 1 -2 0 -1 0" (accepts 29 ((2 ∷ 2 ∷ 0 ∷ 2 ∷ []) ∷ (2 ∷ 1 ∷ 0 ∷ 2 ∷ 2 ∷ 0 ∷ 0 ∷ 0 ∷ 0 ∷ 0 ∷ 0 ∷ 0 ∷ []) ∷ (0 ∷ 2 ∷ 2 ∷ 1 ∷ []) ∷ (1 ∷ 0 ∷ 2 ∷ 1 ∷ 1 ∷ 1 ∷ []) ∷ []))
    ∷ from 0 small "p cnf 1 1 e 1 0 1 0 -0" (accepts 19 ((1 ∷ 1 ∷ 0 ∷ 1 ∷ []) ∷ (2 ∷ 1 ∷ 0 ∷ 0 ∷ 0 ∷ 0 ∷ 0 ∷ 0 ∷ 0 ∷ 0 ∷ 0 ∷ 0 ∷ []) ∷ (0 ∷ 1 ∷ []) ∷ (1 ∷ 0 ∷ []) ∷ []))
    ∷ from 0 small "p cnf 1 1 0 a 1 0" (accepts 11 ((1 ∷ 1 ∷ 0 ∷ 0 ∷ []) ∷ (0 ∷ 0 ∷ 0 ∷ 0 ∷ 0 ∷ 0 ∷ 0 ∷ 0 ∷ 0 ∷ 0 ∷ 0 ∷ 0 ∷ []) ∷ (0 ∷ 0 ∷ []) ∷ [] ∷ []))
    ∷ from 0 small "p cnf 1 0" (accepts 9 ((1 ∷ 0 ∷ 0 ∷ 0 ∷ []) ∷ (0 ∷ 0 ∷ 0 ∷ 0 ∷ 0 ∷ 0 ∷ 0 ∷ 0 ∷ 0 ∷ 0 ∷ 0 ∷ 0 ∷ []) ∷ [] ∷ [] ∷ []))
    ∷ from 0 small "p cnf 1 0 " (accepts 9 ((1 ∷ 0 ∷ 0 ∷ 0 ∷ []) ∷ (0 ∷ 0 ∷ 0 ∷ 0 ∷ 0 ∷ 0 ∷ 0 ∷ 0 ∷ 0 ∷ 0 ∷ 0 ∷ 0 ∷ []) ∷ [] ∷ [] ∷ []))
    ∷ from 0 small "p cnf 1 0 x1" (accepts 9 ((1 ∷ 0 ∷ 0 ∷ 0 ∷ []) ∷ (0 ∷ 0 ∷ 0 ∷ 0 ∷ 0 ∷ 0 ∷ 0 ∷ 0 ∷ 0 ∷ 0 ∷ 0 ∷ 0 ∷ []) ∷ [] ∷ [] ∷ []))
    ∷ from 0 small "p cnf 1 0 -5" (accepts 9 ((1 ∷ 0 ∷ 0 ∷ 0 ∷ []) ∷ (0 ∷ 0 ∷ 0 ∷ 0 ∷ 0 ∷ 0 ∷ 0 ∷ 0 ∷ 0 ∷ 0 ∷ 0 ∷ 0 ∷ []) ∷ [] ∷ [] ∷ []))
    ∷ from 0 small "p cnf 1 0 1234567890" (accepts 9 ((1 ∷ 0 ∷ 0 ∷ 0 ∷ []) ∷ (0 ∷ 0 ∷ 0 ∷ 0 ∷ 0 ∷ 0 ∷ 0 ∷ 0 ∷ 0 ∷ 0 ∷ 0 ∷ 0 ∷ []) ∷ [] ∷ [] ∷ []))
    ∷ from 0 small "p cnf 1 0 \0" (accepts 9 ((1 ∷ 0 ∷ 0 ∷ 0 ∷ []) ∷ (0 ∷ 0 ∷ 0 ∷ 0 ∷ 0 ∷ 0 ∷ 0 ∷ 0 ∷ 0 ∷ 0 ∷ 0 ∷ 0 ∷ []) ∷ [] ∷ [] ∷ []))
    ∷ from 0 small "p cnf 1 0 e 1 0 0" (accepts 15 ((1 ∷ 0 ∷ 0 ∷ 1 ∷ []) ∷ (2 ∷ 1 ∷ 0 ∷ 0 ∷ 0 ∷ 0 ∷ 0 ∷ 0 ∷ 0 ∷ 0 ∷ 0 ∷ 0 ∷ []) ∷ [] ∷ [] ∷ []))
    ∷ from 0 small "p cnf 2 1 a 1 0 2 0" (refuses 6 16 2)
    ∷ from 0 small "p cnf 1 1 a 1 0 -2 0" (refuses 6 16 2)
    ∷ from 0 small "p cnf 1 1 a 1 0 1 1 0" (refuses 7 18 2)
    ∷ from 0 small "p cnf 1 1 a 1 0 -1 1 0" (refuses 7 19 2)
    ∷ from 0 small "p cnf 1 1 a 1 0 -1 -1 0" (refuses 7 19 2)
    -- Limits of the header and tables that are too short.
    ∷ from 0 small "p cnf 0 0" (refuses 5 6 2)
    ∷ from 0 small "p cnf 65536 0" (refuses 5 6 2)
    ∷ from 0 (formula 65536 4 4) "p cnf 65536 0" (refuses 5 6 2)
    ∷ from 0 (formula 65534 4 4) "p cnf 65535 0" (refuses 8 6 2)
    ∷ from 0 small "p cnf 5 0" (refuses 8 6 2)
    ∷ from 0 (formula 0 0 0) "p cnf 1 0" (refuses 8 6 2)
    ∷ from 0 small "p cnf 4 16385" (refuses 5 8 2)
    ∷ from 0 (formula 4 16385 4) "p cnf 4 16385" (refuses 5 8 2)
    ∷ from 0 (formula 4 16383 4) "p cnf 4 16384" (refuses 8 8 2)
    ∷ from 0 small "p cnf 4 5" (refuses 8 8 2)
    ∷ from 0 (formula 1 0 0) "p cnf 1 0" (accepts 9 ((1 ∷ 0 ∷ 0 ∷ 0 ∷ []) ∷ (0 ∷ 0 ∷ 0 ∷ []) ∷ [] ∷ [] ∷ []))
    ∷ from 0 (formula 1 1 0) "p cnf 1 1 e 1 0 0" (accepts 17 ((1 ∷ 1 ∷ 0 ∷ 1 ∷ []) ∷ (2 ∷ 1 ∷ 0 ∷ []) ∷ (0 ∷ 0 ∷ []) ∷ [] ∷ []))
    ∷ from 0 (formula 1 1 0) "p cnf 1 1 e 1 0 1 0" (refuses 8 16 2)
    ∷ from 0 (formula 4 4 2) "p cnf 3 2 e 1 2 3 0 1 2 0 3 0" (refuses 8 26 2)
    ∷ from 0 (formula 4 4 2) "p cnf 4 2 e 1 2 3 0 1 2 0 4 0" (refuses 6 26 2)
    ∷ from 0 (formula 4 4 2) "p cnf 3 2 e 1 2 3 0 1 2 2 0 0" (refuses 7 24 2)
    ∷ from 0 (formula 4 4 2) "p cnf 2 2 e 1 2 0 1 2 0 0" (accepts 25 ((2 ∷ 2 ∷ 0 ∷ 2 ∷ []) ∷ (2 ∷ 1 ∷ 0 ∷ 2 ∷ 2 ∷ 0 ∷ 0 ∷ 0 ∷ 0 ∷ 0 ∷ 0 ∷ 0 ∷ []) ∷ (0 ∷ 2 ∷ 2 ∷ 0 ∷ []) ∷ (1 ∷ 0 ∷ 2 ∷ 0 ∷ []) ∷ []))
    ∷ []

abbrev pub circuits : List Case
circuits =
    -- The AIGER format's own examples: constants, buffer, inverter, and-gate, or-gate, half adder, toggle flip-flop.
    from 0 few "aag 0 0 0 1 0 0" (accepts 15 ((0 ∷ 0 ∷ 1 ∷ 0 ∷ []) ∷ (0 ∷ []) ∷ [] ∷ (0 ∷ []) ∷ []))
    ∷ from 0 few "aag 0 0 0 1 0 1" (accepts 15 ((0 ∷ 0 ∷ 1 ∷ 0 ∷ []) ∷ (1 ∷ []) ∷ [] ∷ (0 ∷ []) ∷ []))
    ∷ from 0 few "aag 1 1 0 1 0 2 2" (accepts 17 ((1 ∷ 1 ∷ 1 ∷ 0 ∷ []) ∷ (2 ∷ []) ∷ [] ∷ (1 ∷ []) ∷ []))
    ∷ from 0 few "aag 1 1 0 1 0 2 3" (accepts 17 ((1 ∷ 1 ∷ 1 ∷ 0 ∷ []) ∷ (3 ∷ []) ∷ [] ∷ (1 ∷ []) ∷ []))
    ∷ from 0 few "aag 3 2 0 1 1 2 4 6 6 2 4" (accepts 25 ((3 ∷ 2 ∷ 1 ∷ 1 ∷ []) ∷ (6 ∷ []) ∷ (2 ∷ 4 ∷ []) ∷ (3 ∷ []) ∷ []))
    ∷ from 0 few "aag 3 2 0 1 1 2 4 7 6 3 5" (accepts 25 ((3 ∷ 2 ∷ 1 ∷ 1 ∷ []) ∷ (7 ∷ []) ∷ (3 ∷ 5 ∷ []) ∷ (3 ∷ []) ∷ []))
    ∷ from 0 few "aag 7 2 0 2 3 2 4 6 12 6 13 15 12 2 4 14 3 5" (refuses 9 12 3)
    ∷ from 0 few "aag 1 0 1 2 0 2 3 2 3" (refuses 9 8 3)
    -- Words.
    ∷ from 0 few "aig 0 0 0 0 0" (refuses 2 0 1)
    ∷ from 0 few "aagg 0 0 0 0 0" (refuses 2 0 1)
    ∷ from 0 few "aag -1 0 0 0 0" (refuses 2 4 1)
    ∷ from 0 few "aag 01 1 0 0 0" (refuses 2 4 1)
    ∷ from 0 few "aag 00 0 0 0 0" (refuses 2 4 1)
    ∷ from 0 few "aag +1 1 0 0 0" (refuses 2 4 1)
    ∷ from 0 few "aag 1234567890 0 0 0 0" (refuses 3 4 1)
    ∷ from 0 few "aag 0123456789 0 0 0 0" (refuses 2 4 1)
    ∷ from 0 few "aag -1234567890 0 0 0 0" (refuses 2 4 1)
    ∷ from 0 few "aag 1 1 0 1 0 2 -2" (refuses 2 16 1)
    ∷ from 0 few "aag 1 1 0 1 0 2 1234567890" (refuses 3 16 1)
    ∷ from 0 few "aag 1 1 0 1 0 2\0 2" (refuses 2 14 1)
    ∷ from 0 few "aag 1 1 0 1 0 2\u{c}2" (refuses 2 14 1)
    ∷ from 0 few "aag 1 1 0 1 0 2 ÿ" (refuses 2 16 1)
    ∷ from 0 few "aag\t1\r\n1\n0 1 0\r\n2\t2\n" (accepts 19 ((1 ∷ 1 ∷ 1 ∷ 0 ∷ []) ∷ (2 ∷ []) ∷ [] ∷ (1 ∷ []) ∷ []))
    ∷ from 0 few "aag 1 1 0 1 0 2 2 i0 x c none" (accepts 17 ((1 ∷ 1 ∷ 1 ∷ 0 ∷ []) ∷ (2 ∷ []) ∷ [] ∷ (1 ∷ []) ∷ []))
    ∷ from 0 few "aag 0 0 0 0 0" (accepts 13 ((0 ∷ 0 ∷ 0 ∷ 0 ∷ []) ∷ [] ∷ [] ∷ [] ∷ []))
    -- Ends and reading places.
    ∷ from 0 few "" (refuses 4 0 1)
    ∷ from 0 few "aag" (refuses 4 3 1)
    ∷ from 0 few "aag 1 1 0 1" (refuses 4 11 1)
    ∷ from 0 few "aag 1 1 0 1 0" (refuses 4 13 1)
    ∷ from 0 few "aag 1 1 0 1 0 2" (refuses 4 15 1)
    ∷ from 0 few "aag 2 1 0 0 1 2 4 2" (refuses 4 19 1)
    ∷ from 0 few "aag 1 2 0 0" (refuses 4 11 1)
    ∷ from 0 few "aag 1 2 0 0 x" (refuses 2 12 1)
    ∷ from 13 few "aag 0 0 0 0 0" (refuses 4 13 1)
    ∷ from 99 few "aag 0 0 0 0 0" (refuses 4 13 1)
    ∷ from 4 few "junk aag 0 0 0 0 0 x" (accepts 18 ((0 ∷ 0 ∷ 0 ∷ 0 ∷ []) ∷ [] ∷ [] ∷ [] ∷ []))
    ∷ from 1 few "xaag 0 0 0 1 0 1" (accepts 16 ((0 ∷ 0 ∷ 1 ∷ 0 ∷ []) ∷ (1 ∷ []) ∷ [] ∷ (0 ∷ []) ∷ []))
    -- Counts, and tables that are too short.
    ∷ from 0 few "aag 60001 0 0 0 0" (refuses 9 4 3)
    ∷ from 0 few "aag 60000 65 0 0 0" (refuses 9 10 3)
    ∷ from 0 few "aag 60000 0 1 0 0" (refuses 9 12 3)
    ∷ from 0 (circuit 4 59999) "aag 60000 0 0 0 60000" (refuses 8 16 3)
    ∷ from 0 (circuit 4 60001) "aag 60000 0 0 0 60001" (refuses 9 16 3)
    ∷ from 0 few "aag 1 0 0 5 1" (refuses 8 10 3)
    ∷ from 0 (circuit 4096 4) "aag 0 0 0 4097 0" (refuses 8 10 3)
    ∷ from 0 (circuit 4097 4) "aag 0 0 0 4097 0" (refuses 9 10 3)
    ∷ from 0 (circuit 4095 4) "aag 0 0 0 4096 0" (refuses 8 10 3)
    ∷ from 0 few "aag 5 1 0 0 5 2" (refuses 8 12 3)
    ∷ from 0 few "aag 5 0 0 0 5 2" (refuses 8 12 3)
    ∷ from 0 few "aag 1 1 0 0 999999999 2" (refuses 8 12 3)
    ∷ from 0 few "aag 3 1 0 0 3 2" (refuses 9 12 3)
    ∷ from 0 few "aag 3 1 0 0 1 2" (refuses 9 12 3)
    ∷ from 0 few "aag 0 1 0 0 0 2" (refuses 9 12 3)
    ∷ from 0 (circuit 0 0) "aag 0 0 0 0 0" (accepts 13 ((0 ∷ 0 ∷ 0 ∷ 0 ∷ []) ∷ [] ∷ [] ∷ [] ∷ []))
    ∷ from 0 (circuit 0 0) "aag 0 0 0 1 0 0" (refuses 8 10 3)
    ∷ from 0 (circuit 4 0) "aag 2 1 0 0 1 2 4 2 2" (refuses 8 12 3)
    -- Literals.
    ∷ from 0 few "aag 1 1 0 0 0 3" (refuses 10 14 3)
    ∷ from 0 few "aag 1 1 0 0 0 0" (refuses 10 14 3)
    ∷ from 0 few "aag 2 2 0 0 0 4 2" (refuses 10 14 3)
    ∷ from 0 few "aag 2 2 0 0 0 2 2" (refuses 10 16 3)
    ∷ from 0 few "aag 1 1 0 1 0 2 4" (refuses 10 16 3)
    ∷ from 0 few "aag 0 0 0 1 0 2" (refuses 10 14 3)
    ∷ from 0 few "aag 2 1 0 2 1 2 5 0 4 2 3" (accepts 25 ((2 ∷ 1 ∷ 2 ∷ 1 ∷ []) ∷ (5 ∷ 0 ∷ []) ∷ (2 ∷ 3 ∷ []) ∷ (1 ∷ 0 ∷ []) ∷ []))
    ∷ from 0 few "aag 2 1 0 2 1 2 5 6 4 2 3" (refuses 10 18 3)
    ∷ from 0 few "aag 2 1 0 0 1 2 5 2 2" (refuses 10 16 3)
    ∷ from 0 few "aag 2 1 0 0 1 2 6 2 2" (refuses 10 16 3)
    ∷ from 0 few "aag 2 1 0 0 1 2 2 2 2" (refuses 10 16 3)
    ∷ from 0 few "aag 2 1 0 0 1 2 4 4 2" (refuses 10 18 3)
    ∷ from 0 few "aag 2 1 0 0 1 2 4 2 4" (refuses 10 20 3)
    ∷ from 0 few "aag 2 1 0 0 1 2 4 2 5" (refuses 10 20 3)
    ∷ from 0 few "aag 3 1 0 0 2 2 4 6 2 6 2 2" (refuses 10 18 3)
    ∷ from 0 few "aag 2 1 0 0 1 2 4 3 3" (accepts 21 ((2 ∷ 1 ∷ 0 ∷ 1 ∷ []) ∷ [] ∷ (3 ∷ 3 ∷ []) ∷ [] ∷ []))
    ∷ from 0 few "aag 3 1 0 1 2 2 7 4 2 0 6 5 1" (accepts 29 ((3 ∷ 1 ∷ 1 ∷ 2 ∷ []) ∷ (7 ∷ []) ∷ (2 ∷ 0 ∷ 5 ∷ 1 ∷ []) ∷ (1 ∷ []) ∷ []))
    ∷ []

abbrev pub table : List Case
table = formulas ++ circuits
