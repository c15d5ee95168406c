-- A row with a clause at its front, and what is told of it.
use Rattle.std.proofs.Common.{◌≡◌, ℕ, zero, suc, ◌+◌, ◌-◌, ◌<◌, ◌≤◌, Bool, true, false, cond, ◌⊎◌, List, [], ◌∷◌, ◌++◌, length, get_or, take, drop, set, Some, None, Option, Result, sym, refl, ap, ◌∙◌, ap₂, inl, inr, drop-cons, add-one, arith}
use Rattle.std.proofs.lemmas.List.{length-append, length-take, length-drop, length_push, drop-set-lt, drop-drop, take_at}
use Rattle.std.proofs.lemmas.Slice.{drop-append-drop}
use Rattle.std.proofs.Math.Seq.{append_snoc, set-append_seam}
use Rattle.std.proofs.lemmas.Bool.{cond-true, cond-false, eq-eqb, le-leb, ne_eqb}
use Rattle.base.specs.declared.faults.Cause.{Cause}
use Rattle.clauses.specs.declared.clause.Found.{Found}
use Rattle.clauses.specs.declared.clause.Found.TheVariants as found
use Rattle.clauses.specs.Clauses.{Joined, found_in, is_except, add_by, add, join, told_clause, over, pivot_at, resolved_by, row_by, Resolved}

-- one more literal is written: what stands behind it is as it was
pub drop_more_set : {X : Type 0} (xs ys : List X) (n : ℕ) (v : X) → drop n xs ≡ drop n ys → drop (n + 1) (set xs n v) ≡ drop (n + 1) ys
drop_more_set xs ys n v e = drop-set-lt (n + 1) xs n v (omega arith) ∙ sym (drop-drop 1 n xs) ∙ ap (drop 1) e ∙ drop-drop 1 n ys

module _ {X : Type 0} (opposite : X → X) where
  pub pivot_none : (xs : List X) (p : ℕ) → (p ≡ 0) ⊎ ((p ≡ 0 → ⊥) × (length xs < p)) → pivot_at opposite xs p ≡ None
  pivot_none [] p h = refl
  pivot_none (x ∷ xs) p (inl e) = cond-true _ _ _ (eq-eqb p 0 e)
  pivot_none (x ∷ xs) p (inr (n, h)) =
      cond-false _ _ _ (ne_eqb p 0 n) ∙ cond-false _ _ _ (ne_eqb p 1 (λ e. omega arith))
      ∙ pivot_none xs (p - 1) (inr ((λ e. omega arith), (omega arith)))

  pivot_some : (xs : List X) (k : ℕ) (x : X) → k < length xs → x ≡ get_or xs k x → pivot_at opposite xs (k + 1) ≡ Some (opposite x)
  pivot_some [] k x h e = absurd (omega arith)
  pivot_some (y ∷ ys) zero x h e = ap (λ z. Some (opposite z)) (sym e)
  pivot_some (y ∷ ys) (suc k) x h e =
      let back : suc k + 1 - 1 ≡ k + 1 = omega arith in
      cond-false _ _ _ (ne_eqb (suc k + 1) 0 (λ e. omega arith)) ∙ cond-false _ _ _ (ne_eqb (suc k + 1) 1 (λ e. omega arith))
      ∙ ap (pivot_at opposite ys) back ∙ pivot_some ys k x (omega arith) e

  pub pivot_is : (xs : List X) (p : ℕ) (x c : X) → (p ≡ 0 → ⊥) → p ≤ length xs → x ≡ get_or xs (p - 1) x → c ≡ opposite x → pivot_at opposite xs p ≡ Some c
  pivot_is xs p x c n h e f =
      let back : p ≡ p - 1 + 1 = omega arith in
      ap (pivot_at opposite xs) back ∙ pivot_some xs (p - 1) x (omega arith) e ∙ ap Some (sym f)

module _ {X : Type 0} (c was : List X) where
  pub take_over : (n : ℕ) → length c ≡ n → take n (over c was) ≡ c
  take_over n e = take_at c (drop (length c) was) n e

  -- a longer clause written over it leaves nothing of it
  pub over_over : (d : List X) → length c ≤ length d → over d (over c was) ≡ over d was
  over_over d h = ap (λ l. d ++ l) (drop-append-drop (length c) was c (length d) h refl)

-- one literal more is written behind the clause
pub over_more : {X : Type 0} (c was : List X) (n : ℕ) (x : X) → length c ≡ n → n < length was → set (over c was) n x ≡ over (c ++ x ∷ []) was
over_more c was n x e inside =
    ap₂ (λ i ys. set (c ++ ys) i x) (sym e) (drop-cons was (length c) x (omega arith))
    ∙ set-append_seam c (get_or was (length c) x) (drop (suc (length c)) was) x
    ∙ sym (append_snoc c x (drop (suc (length c)) was)) ∙ ap (λ k. c ++ x ∷ [] ++ drop k was) (sym (length_push c x ∙ add-one (length c)))

-- joining makes no clause shorter
module _ {X : Type 0} (like : X → X → Bool) (opposite : X → X) (except : Option X) where
  added_grows : (b : Bool) (f : Found) (j : Joined X) (y : X) → length j.clause ≤ length (cond b j (add_by like opposite f j y)).clause
  added_grows true f j y = omega arith
  added_grows false found.Same j y = omega arith
  added_grows false found.Opposite j y = omega arith
  added_grows false found.Neither j y = omega (arith, length-append j.clause (y ∷ []))

  pub join_grows : (ys : List X) (j : Joined X) → length j.clause ≤ length (join like opposite except j ys).clause
  join_grows [] j = omega arith
  join_grows (y ∷ ys) j =
      omega (arith, added_grows (is_except like except y) (found_in like y (opposite y) j.clause) j y, join_grows ys (add like opposite except j y))

pub length_without : {X : Type 0} (xs : List X) (p : ℕ) → 1 ≤ p → p ≤ length xs → length (take (p - 1) xs ++ drop p xs) ≡ length xs - 1
length_without xs p l h = omega (arith, length-append (take (p - 1) xs) (drop p xs), length-take (p - 1) xs, length-drop p xs)

-- the answer by what stands at the position, where the row is long enough
module _ {X : Type 0} (like : X → X → Bool) (opposite : X → X) (first second : List X) (position : ℕ) (r : Result ℕ Cause) (was is : List X) (room : length first + length second ≤ length was) where
  pub by_pivot : (o : Option X) → pivot_at opposite first position ≡ o → told_clause r is ≡ resolved_by like opposite o first second position → is ≡ row_by like opposite o first second position was → Resolved like opposite first second position r was is
  by_pivot o e a b =
      record {
        answer = a ∙ sym (cond-true _ _ _ (le-leb _ _ room) ∙ ap (λ p. resolved_by like opposite p first second position) e);
        row = b ∙ sym (cond-true _ _ _ (le-leb _ _ room) ∙ ap (λ p. row_by like opposite p first second position was) e);
      }
