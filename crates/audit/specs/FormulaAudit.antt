-- Formula tables that an accepted reading leaves.
use Rattle.std.specs.Prelude.{◌≡◌, ℕ, ◌+◌, ◌-◌, ◌<◌, Bool, true, false, cond, not, ◌&&◌, List, [], ◌∷◌, ◌++◌, length, take, drop, replicate, Some, None, Ok, Option, ◌==◌, nat_le, slice_index, slice_set}
use Rattle.std.specs.Option.{option_and_then, option_map_or}
use Rattle.std.specs.List.{AllByRecursion, list_all}
use Rattle.base.specs.Words.{empty_word, first_word, within_word}
use Rattle.words.specs.Words.{words_from}
use Rattle.words.specs.Tables.{padded}
use Rattle.formula.specs.declared.tables.Clause.{Clause}
use Rattle.formula.specs.declared.tables.Head.{Head}
use Rattle.formula.specs.declared.tables.Kind.{Kind}
use Rattle.formula.specs.declared.tables.Kind.TheVariants as kind
use Rattle.formula.specs.declared.tables.Literal.{Literal}
use Rattle.formula.specs.declared.tables.Variable.{Variable}
use Rattle.formula.specs.Groups.{variable_at, is_undeclared}
use Rattle.formula.specs.Clauses.{names}
use Rattle.formula.specs.Reading.{Formula, no_span, no_literal, parts_from}
use Rattle.audit.specs.declared.formulas.Owners.{Owners}

abbrev pub head_lawful : Head → ℕ → ℕ → Bool
head_lawful h variables clauses =
    nat_le 1 h.variables && nat_le h.variables 65535 && nat_le h.variables variables && nat_le h.clauses 16384 && nat_le h.clauses clauses
    && nat_le h.universals 64 && nat_le h.existentials 4096

abbrev pub owners : List ℕ → List ℕ → Owners
owners us es = record { universals = us; existentials = es }

-- a position from 1 to n that has no owner yet
abbrev pub free : ℕ → List ℕ → ℕ → Bool
free n os k = nat_le 1 k && nat_le k n && slice_index os k == 0

abbrev pub owns_by : Kind → Head → ℕ → Variable → Owners → Option Owners
owns_by kind.Undeclared h v x o = cond (x.position == 0 && within_word x.dependencies empty_word) (Some o) None
owns_by kind.Universal h v x o =
    cond (free h.universals o.universals x.position && within_word x.dependencies empty_word)
    (Some (owners (slice_set o.universals x.position v) o.existentials)) None
owns_by kind.Existential h v x o =
    cond (free h.existentials o.existentials x.position && within_word x.dependencies (first_word h.universals))
    (Some (owners o.universals (slice_set o.existentials x.position v))) None

-- variable v, by its record, is entered as the owner of its position
abbrev pub owns : Head → ℕ → Variable → Owners → Option Owners
owns h v x o = owns_by x.kind h v x o

-- the records from variable v on
abbrev pub records_own : Head → ℕ → List Variable → Owners → Option Owners
records_own h v [] o = Some o
records_own h v (x ∷ xs) o = option_and_then (λ o'. records_own h (v + 1) xs o') (owns h v x o)

abbrev pub all_owned : List ℕ → Bool
all_owned os = list_all (λ o. not (o == 0)) os

abbrev pub undeclared : Variable → Bool
undeclared x = is_undeclared x.kind && x.position == 0 && within_word x.dependencies empty_word

abbrev pub undeclared_all : List Variable → Bool
undeclared_all xs = list_all undeclared xs

-- the records of the declared variables, and those behind them
abbrev pub records_lawful : Head → List Variable → List Variable → Bool
records_lawful h declared free_records =
    option_map_or
    (λ o. all_owned (take h.universals (drop 1 o.universals)) && all_owned (take h.existentials (drop 1 o.existentials)) && undeclared_all free_records)
    (records_own h 1 declared (owners (replicate 65 0) (replicate 4097 0))) false

abbrev pub variables_lawful : Head → List Variable → Bool
variables_lawful h vs = records_lawful h (take h.variables vs) (drop h.variables vs)

-- literals of declared variables, behind those of the clause that came before, none named twice
abbrev pub clause_lawful : List Variable → List Literal → List Literal → Bool
clause_lawful vs done [] = true
clause_lawful vs done (l ∷ ls) =
    nat_le 1 l.variable && nat_le l.variable (length vs) && not (is_undeclared (variable_at vs l.variable).kind) && not (names l.variable done)
    && clause_lawful vs (done ++ l ∷ []) ls

-- the index behind the literals of these clauses, of which the first begins at `at`
abbrev pub spans_end : List Variable → ℕ → List Clause → List Literal → Option ℕ
spans_end vs at [] ls = Some at
spans_end vs at (s ∷ ss) ls =
    cond (s.first == at && nat_le s.len 1024 && nat_le s.len (length ls - at) && clause_lawful vs [] (take s.len (drop at ls)))
    (spans_end vs (at + s.len) ss ls) None

abbrev pub zero_span : Clause → Bool
zero_span s = s.first == 0 && s.len == 0

abbrev pub zero_spans : List Clause → Bool
zero_spans ss = list_all zero_span ss

abbrev pub zero_literal : Literal → Bool
zero_literal l = l.variable == 0 && not l.negative

abbrev pub zero_literals : List Literal → Bool
zero_literals ls = list_all zero_literal ls

-- the spans of the clauses, and those behind them
abbrev pub spans_lawful : List Variable → List Clause → List Clause → List Literal → Bool
spans_lawful declared used free_spans ls =
    option_map_or (λ end. zero_spans free_spans && zero_literals (drop end ls)) (spans_end declared 0 used ls) false

abbrev pub clauses_lawful : Head → List Variable → List Clause → List Literal → Bool
clauses_lawful h vs cs ls = spans_lawful (take h.variables vs) (take h.clauses cs) (drop h.clauses cs) ls

-- what the audit computes
abbrev pub formula_lawful : Head → List Variable → List Clause → List Literal → Bool
formula_lawful h vs cs ls = head_lawful h (length vs) (length cs) && variables_lawful h vs && clauses_lawful h vs cs ls

-- A reading of this text from this place, its length set aside, is accepted and leaves this head and these tables.
pub record LeavesFormula (text : List ℕ) (place : ℕ) (h : Head) (vs : List Variable) (cs : List Clause) (ls : List Literal) : Type 0 where
  pub bytes : AllByRecursion (λ b. b < 256) text
  pub formula : Formula
  pub accepted : parts_from (words_from text place) (length vs) (length cs) (length ls) (length text) ≡ Ok formula
  pub head : h ≡ formula.head
  pub variables : vs ≡ formula.variables
  pub clauses : cs ≡ padded no_span formula.clauses (length cs)
  pub literals : ls ≡ padded no_literal formula.literals (length ls)

abbrev pub LeftByAFormulaText : Head → List Variable → List Clause → List Literal → Type 0
LeftByAFormulaText h vs cs ls = (text : List ℕ) × (place : ℕ) × LeavesFormula text place h vs cs ls
