-- The clauses, by recursion on the words that are left.
use Rattle.std.specs.Prelude.{ℕ, zero, suc, ◌-◌, Bool, false, cond, ◌||◌, List, [], ◌∷◌, ◌++◌, length, Ok, Err, Result, ◌==◌, nat_le, nat_lt}
use Rattle.base.specs.Causes.{Refusal, refused}
use Rattle.words.specs.declared.forms.Numeral.{Numeral}
use Rattle.words.specs.Words.{Spelt, start_of, end_of}
use Rattle.words.specs.Due.{Got, and_then, literal_in, text_ends}
use Rattle.formula.specs.declared.tables.Clause.{Clause}
use Rattle.formula.specs.declared.tables.Literal.{Literal}
use Rattle.formula.specs.declared.tables.Variable.{Variable}
use Rattle.formula.specs.Groups.{variable_at, is_undeclared}

-- whether variable v stands among these literals
abbrev pub names : ℕ → List Literal → Bool
names v [] = false
names v (l ∷ ls) = l.variable == v || names v ls

abbrev pub literal_of : Numeral → Literal
literal_of n = record { variable = n.value; negative = n.negative }

-- one more literal of a clause that has `count`, at place p: a broken limit comes first, then an unknown variable,
-- a repeated one, and a full table
abbrev pub judge_literal : ℕ → List Variable → ℕ → Bool → ℕ → Numeral → ℕ → Result Literal Refusal
judge_literal known vs count repeated room n p =
    cond (nat_le 1024 count) (Err (refused 5 p 2))
    (cond (nat_lt known n.value || is_undeclared (variable_at vs n.value).kind) (Err (refused 6 p 2))
    (cond repeated (Err (refused 7 p 2)) (cond (nat_le room count) (Err (refused 8 p 2)) (Ok (literal_of n)))))

abbrev pub add_literal : ℕ → List Variable → List Literal → ℕ → Numeral → ℕ → Result Literal Refusal
add_literal known vs done room n p = judge_literal known vs (length done) (names n.value done) room n p

-- one clause, behind the literals that were read
abbrev pub clause_from : ℕ → List Variable → List Literal → List Spelt → ℕ → ℕ → Got (List Literal)
clause_from known vs done [] room size = Err (text_ends size)
clause_from known vs done (w ∷ ws) room size =
    and_then (literal_in w)
    (λ n. cond (n.value == 0) (Ok (done, ws, end_of w))
    (and_then (add_literal known vs done room n (start_of w)) (λ l. clause_from known vs (done ++ l ∷ []) ws room size)))

-- Clauses that were read: where each stands, and their literals.
pub record Clauses : Type 0 where
  pub spans : List Clause
  pub literals : List Literal

abbrev pub no_clause : Clauses
no_clause = record { spans = []; literals = [] }

-- one more clause, directly behind the others
abbrev pub add_clause : Clauses → List Literal → Clauses
add_clause done c =
    record { spans = done.spans ++ record { first = length done.literals; len = length c } ∷ []; literals = done.literals ++ c }

abbrev pub clauses_from : ℕ → List Variable → ℕ → Clauses → List Spelt → ℕ → ℕ → ℕ → Got Clauses
clauses_from known vs zero done ws q room size = Ok (done, ws, q)
clauses_from known vs (suc n) done ws q room size =
    and_then (clause_from known vs [] ws (room - length done.literals) size)
    (λ c. clauses_from known vs n (add_clause done c.0) c.1 c.2 room size)
