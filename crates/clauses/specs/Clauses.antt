-- Clauses as lists of items that can be told alike: membership, containment, and the resolvent.
use Rattle.std.specs.Prelude.{◌≡◌, ℕ, ◌+◌, ◌-◌, Bool, true, false, cond, List, [], ◌∷◌, ◌++◌, length, take, drop, Some, None, Ok, Err, Option, Result, ◌==◌, nat_le, nat_lt}
use Rattle.std.specs.List.{list_any, list_all}
use Rattle.base.specs.declared.faults.Cause.{Cause}
use Rattle.base.specs.Causes.{cause_number}
use Rattle.clauses.specs.declared.clause.Found.{Found}
use Rattle.clauses.specs.declared.clause.Found.TheVariants as found

module _ {X : Type 0} (like : X → X → Bool) where
  -- whether x stands in a list
  abbrev pub member : X → List X → Bool
  member x ys = list_any (λ y. like y x) ys

  -- whether each item of the first list stands in the second
  abbrev pub contained : List X → List X → Bool
  contained xs ys = list_all (λ x. member x ys) xs

  -- what stands first in a list: x, or its complement c, or neither
  abbrev pub found_in : X → X → List X → Found
  found_in x c [] = found.Neither
  found_in x c (y ∷ ys) = cond (like y x) found.Same (cond (like y c) found.Opposite (found_in x c ys))

  abbrev pub is_except : Option X → X → Bool
  is_except None y = false
  is_except (Some x) y = like y x

-- A clause that is being built, and whether a literal was met whose complement it holds.
pub record Joined (X : Type 0) : Type 0 where
  pub clause : List X
  pub clash : Bool

abbrev pub joined : {X : Type 0} → List X → Bool → Joined X
joined c b = record { clause = c; clash = b }

-- what was built, as a clause of at most 1,024 literals, or the cause why it is none
abbrev pub filed : {X : Type 0} → Joined X → Result (List X) ℕ
filed j = cond j.clash (Err 19) (cond (nat_lt 1024 (length j.clause)) (Err 20) (Ok j.clause))

module _ {X : Type 0} (like : X → X → Bool) (opposite : X → X) where
  -- one more literal: kept only where it first stands; where its complement stands, the clause clashes
  abbrev pub add_by : Found → Joined X → X → Joined X
  add_by found.Same j y = j
  add_by found.Opposite j y = joined j.clause true
  add_by found.Neither j y = joined (j.clause ++ y ∷ []) j.clash

  abbrev pub add : Option X → Joined X → X → Joined X
  add except j y = cond (is_except like except y) j (add_by (found_in like y (opposite y) j.clause) j y)

  -- more literals behind a clause, without the one that is excepted
  abbrev pub join : Option X → Joined X → List X → Joined X
  join except j [] = j
  join except j (y ∷ ys) = join except (add except j y) ys

  -- the premise with each literal kept once
  abbrev pub once : List X → Joined X
  once c = join None (joined [] false) c

  -- the first clause without the literal at a position, from 1, then the second's literals except its complement
  -- and those already present
  abbrev pub resolvent : List X → List X → X → ℕ → Joined X
  resolvent first second pivot position =
      join (Some pivot) (joined (take (position - 1) first ++ drop position first) false) second

-- what a function answers of the clause that it left in front of the lent row
abbrev pub told_clause : {X : Type 0} → Result ℕ Cause → List X → Result (List X) ℕ
told_clause (Ok n) out = Ok (take n out)
told_clause (Err c) out = Err (cause_number c)

-- a row with this clause written at its front
abbrev pub over : {X : Type 0} → List X → List X → List X
over c row = c ++ drop (length c) row

module _ {X : Type 0} (opposite : X → X) where
  -- the pivot's complement at a position, from 1; none where there is no such position
  abbrev pub pivot_at : List X → ℕ → Option X
  pivot_at [] position = None
  pivot_at (x ∷ xs) position = cond (position == 0) None (cond (position == 1) (Some (opposite x)) (pivot_at xs (position - 1)))

module _ {X : Type 0} (like : X → X → Bool) (opposite : X → X) where
  -- the premise with each literal kept once, what is answered, and what the lent row holds then
  pub record PremiseKept (premise : List X) (r : Result ℕ Cause) (was is : List X) : Type 0 where
    pub answer : told_clause r is ≡ cond (nat_le (length premise) (length was)) (filed (once like opposite premise)) (Err 8)
    pub row : is ≡ cond (nat_le (length premise) (length was)) (over (once like opposite premise).clause was) was

  abbrev pub resolved_by : Option X → List X → List X → ℕ → Result (List X) ℕ
  resolved_by None first second position = Err 16
  resolved_by (Some pivot) first second position =
      cond (member like pivot second) (filed (resolvent like opposite first second pivot position)) (Err 18)

  abbrev pub row_by : Option X → List X → List X → ℕ → List X → List X
  row_by None first second position was = was
  row_by (Some pivot) first second position was =
      cond (member like pivot second) (over (resolvent like opposite first second pivot position).clause was) was

  -- the resolvent at a position of the first clause, what is answered, and what the lent row holds then
  pub record Resolved (first second : List X) (position : ℕ) (r : Result ℕ Cause) (was is : List X) : Type 0 where
    pub answer : told_clause r is ≡ cond (nat_le (length first + length second) (length was)) (resolved_by (pivot_at opposite first position) first second position) (Err 8)
    pub row : is ≡ cond (nat_le (length first + length second) (length was)) (row_by (pivot_at opposite first position) first second position was) was
