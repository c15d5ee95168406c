-- What the reader of formula texts answers.
use Rattle.std.specs.Prelude.{◌≡◌, ℕ, Bool, false, cond, ◌||◌, List, [], ◌∷◌, length, replicate, Ok, Err, Result, ◌==◌, nat_lt}
use Rattle.base.specs.declared.faults.Fault.{Fault}
use Rattle.base.specs.Causes.{Refusal, refused, answered}
use Rattle.words.specs.Words.{Spelt, words_from}
use Rattle.words.specs.Due.{Got, and_then, number_from, name_from, unless_long}
use Rattle.words.specs.Tables.{padded}
use Rattle.formula.specs.declared.tables.Clause.{Clause}
use Rattle.formula.specs.declared.tables.Head.{Head}
use Rattle.formula.specs.declared.tables.Literal.{Literal}
use Rattle.formula.specs.declared.tables.Variable.{Variable}
use Rattle.formula.specs.Groups.{no_variable, nothing_declared, groups_from, outside}
use Rattle.formula.specs.Clauses.{no_clause, clauses_from}

abbrev pub no_span : Clause
no_span = record { first = 0; len = 0 }

abbrev pub no_literal : Literal
no_literal = record { variable = 0; negative = false }

-- a count of the header: a broken limit comes before a table that is too short
abbrev pub count_from : (ℕ → Bool) → ℕ → List Spelt → ℕ → Got ℕ
count_from breaks room ws size =
    and_then (number_from ws size)
    (λ g. cond (breaks g.0.0) (Err (refused 5 g.0.1 2)) (cond (nat_lt room g.0.0) (Err (refused 8 g.0.1 2)) (Ok (g.0.0, g.1, g.2))))

abbrev pub header_from : List Spelt → ℕ → ℕ → ℕ → Got (ℕ × ℕ)
header_from ws variable_room clause_room size =
    and_then (name_from (112 ∷ []) ws size)
    (λ a. and_then (name_from (99 ∷ 110 ∷ 102 ∷ []) a.1 size)
    (λ b. and_then (count_from (λ n. (n == 0) || nat_lt 65535 n) variable_room b.1 size)
    (λ v. and_then (count_from (λ n. nat_lt 16384 n) clause_room v.1 size) (λ c. Ok ((v.0, c.0), c.1, c.2)))))

-- A formula as its tables hold it, without the zeros behind them, and the place behind its last word.
pub record Formula : Type 0 where
  pub head : Head
  pub variables : List Variable
  pub clauses : List Clause
  pub literals : List Literal
  pub place : ℕ

abbrev pub parts_from : List Spelt → ℕ → ℕ → ℕ → ℕ → Result Formula Refusal
parts_from ws variable_room clause_room literal_room size =
    and_then (header_from ws variable_room clause_room size)
    (λ h. and_then (groups_from h.0.0 outside (nothing_declared (replicate variable_room no_variable)) h.1 h.2 size)
    (λ d. and_then (clauses_from h.0.0 d.0.table h.0.1 no_clause d.1 d.2 literal_room size)
    (λ c. Ok (record {
      head = record { variables = h.0.0; clauses = h.0.1; universals = d.0.universals; existentials = d.0.existentials };
      variables = d.0.table;
      clauses = c.0.spans;
      literals = c.0.literals;
      place = c.2;
    }))))

-- the formula that a text spells from a place on, for tables of these lengths
abbrev pub formula_from : List ℕ → ℕ → ℕ → ℕ → ℕ → Result Formula Refusal
formula_from text place variable_room clause_room literal_room =
    unless_long (length text) (parts_from (words_from text place) variable_room clause_room literal_room (length text))

abbrev pub head_read : Result Formula Refusal → Result Head Refusal
head_read (Ok f) = Ok f.head
head_read (Err e) = Err e

abbrev pub variables_read : Result Formula Refusal → ℕ → List Variable
variables_read (Ok f) n = f.variables
variables_read (Err e) n = replicate n no_variable

abbrev pub clauses_read : Result Formula Refusal → ℕ → List Clause
clauses_read (Ok f) n = padded no_span f.clauses n
clauses_read (Err e) n = replicate n no_span

abbrev pub literals_read : Result Formula Refusal → ℕ → List Literal
literals_read (Ok f) n = padded no_literal f.literals n
literals_read (Err e) n = replicate n no_literal

abbrev pub place_read : Result Formula Refusal → ℕ → ℕ
place_read (Ok f) p = f.place
place_read (Err e) p = p

-- the tables that a reader is lent
pub record Tables : Type 0 where
  pub variables : List Variable
  pub clauses : List Clause
  pub literals : List Literal

abbrev pub tables : List Variable → List Clause → List Literal → Tables
tables vs cs ls = record { variables = vs; clauses = cs; literals = ls }

-- the formula that a text spells from a place on, for these tables
abbrev pub formula_for : List ℕ → ℕ → Tables → Result Formula Refusal
formula_for text place t = formula_from text place (length t.variables) (length t.clauses) (length t.literals)

-- a reader's answer, and what it leaves in the tables and the place that it was lent
pub record Agrees (f : Result Formula Refusal) (r : Result Head Fault) (was is : Tables) (p q : ℕ) : Type 0 where
  pub head : answered r ≡ head_read f
  pub variables : is.variables ≡ variables_read f (length was.variables)
  pub clauses : is.clauses ≡ clauses_read f (length was.clauses)
  pub literals : is.literals ≡ literals_read f (length was.literals)
  pub place : q ≡ place_read f p

-- the same of the formula that a text spells from a place on
abbrev pub Reads : List ℕ → ℕ → Result Head Fault → Tables → Tables → ℕ → Type 0
Reads text p r was is q = Agrees (formula_for text p was) r was is p q
