-- Which items the built clauses have, and that they are true where those are that they come from, for every kind of
-- literal: the facts about the kind are parameters.
use Rattle.std.proofs.Common.{◌≡◌, ℕ, zero, suc, ◌-◌, Bool, true, false, cond, not, ◌&&◌, ◌||◌, ◌⊎◌, List, [], ◌∷◌, ◌++◌, take, drop, Some, None, Option, sym, refl, ap, ◌∙◌, inl, inr, ⊎_elim, arith}
use Rattle.std.proofs.lemmas.Bool.{both_ways, cases_Bool, and_parts, or_cases, or_left, or_right, cond-false, ne_eqb}
use Rattle.std.proofs.Math.Bool.{or-false}
use Rattle.std.proofs.lemmas.List.Folds.{list_any-append}
use Rattle.clauses.specs.declared.clause.Found.{Found}
use Rattle.clauses.specs.declared.clause.Found.TheVariants as found
use Rattle.clauses.specs.Clauses.{member, contained, found_in, is_except, Joined, joined, add_by, add, join, once, pivot_at, resolvent}

same_tests : (a b : Bool) → (a ≡ true → b ≡ true) → (b ≡ true → a ≡ true) → a ≡ b
same_tests true b f g = sym (f refl)
same_tests false b f g = ⊎_elim (λ e. g e ∙ sym e) sym (cases_Bool b)

or_less : (a b : Bool) → (b ≡ true → a ≡ true) → (a || b) ≡ a
or_less true b h = refl
or_less false b h = ⊎_elim (λ t. t ∙ sym (h t)) (λ f. f) (cases_Bool b)

or_kept : (a b : Bool) → (a ≡ true → b ≡ false) → (a || false) ≡ (a && not b)
or_kept true b h = sym (ap not (h refl))
or_kept false b h = refl

or_turn : (m l r n : Bool) → ((m || (l && n)) || (r && n)) ≡ (m || ((l || r) && n))
or_turn true l r n = refl
or_turn false true true true = refl
or_turn false true true false = refl
or_turn false true false true = refl
or_turn false true false false = refl
or_turn false false r n = refl

same_by : (b d : Bool) (f : Found) → cond b found.Same (cond d found.Opposite f) ≡ found.Same → (b ≡ true) ⊎ (f ≡ found.Same)
same_by true d f e = inl refl
same_by false true f e = let z : ◌≡◌ {A = ℕ} 0 1 = cc in absurd (omega arith)
same_by false false f e = inr e

-- what stands at a position of a clause
pub pivot_split : {X : Type 0} (opposite : X → X) (xs : List X) (p : ℕ) (c : X) → pivot_at opposite xs p ≡ Some c → (x : X) × ((c ≡ opposite x) × (xs ≡ take (p - 1) xs ++ x ∷ drop p xs))
pivot_split opposite [] p c e = let z : ◌≡◌ {A = ℕ} 0 1 = cc in absurd (omega arith)
pivot_split opposite (x ∷ xs) zero c e = let z : ◌≡◌ {A = ℕ} 0 1 = cc in absurd (omega arith)
pivot_split opposite (x ∷ xs) (suc zero) c e = (x, (cc, refl))
pivot_split opposite (x ∷ xs) (suc (suc n)) c e =
    let less : suc (suc n) - 1 ≡ suc n = omega arith in
    let least : suc n - 1 ≡ n = omega arith in
    let later = ap (pivot_at opposite xs) (sym less) ∙ sym (cond-false _ _ _ (ne_eqb (suc (suc n)) 0 (λ z. omega arith)) ∙ cond-false _ _ _ (ne_eqb (suc (suc n)) 1 (λ z. omega arith))) ∙ e in
    let rest = pivot_split opposite xs (suc n) c later in (
      rest.0,
      (
        rest.1.0,
        ap (λ l. x ∷ l) (rest.1.1 ∙ ap (λ k. take k xs ++ rest.0 ∷ drop (suc n) xs) least)
            ∙ ap (λ k. take k (x ∷ xs) ++ rest.0 ∷ drop (suc n) xs) (sym less),
      ),
    )

module _ {X : Type 0} (like : X → X → Bool) (opposite : X → X) (itself : (x : X) → like x x ≡ true) (back : (x y : X) → like x y ≡ true → like y x ≡ true) (through : (x y z : X) → like x y ≡ true → like y z ≡ true → like x z ≡ true) where
  pub member_like : (x y : X) → like x y ≡ true → (zs : List X) → member like x zs ≡ member like y zs
  member_like x y e [] = refl
  member_like x y e (z ∷ zs) =
      ap (λ b. b || member like x zs) (same_tests (like z x) (like z y) (λ h. through z x y h e) (λ h. through z y x h (back x y e)))
      ∙ ap (λ b. like z y || b) (member_like x y e zs)

  except_like : (except : Option X) (x y : X) → like x y ≡ true → is_except like except x ≡ is_except like except y
  except_like None x y e = refl
  except_like (Some p) x y e = same_tests (like x p) (like y p) (λ h. through y x p (back x y e) h) (λ h. through x y p e h)

  pub contained_member : (xs ys : List X) → contained like xs ys ≡ true → (x : X) → member like x xs ≡ true → member like x ys ≡ true
  contained_member [] ys e x m = absurd (both_ways false refl m)
  contained_member (y ∷ xs) ys e x m =
      let both = and_parts (member like y ys) (contained like xs ys) e in
      ⊎_elim (λ l. sym (member_like y x l ys) ∙ both.0) (λ r. contained_member xs ys both.1 x r) (or_cases (like y x) (member like x xs) m)

  found_same : (y c : X) (xs : List X) → found_in like y c xs ≡ found.Same → member like y xs ≡ true
  found_same y c [] e = let z : ◌≡◌ {A = ℕ} 0 1 = cc in absurd (omega arith)
  found_same y c (x ∷ xs) e =
      ⊎_elim (λ l. or_left (like x y) (member like y xs) l) (λ f. or_right (like x y) (member like y xs) (found_same y c xs f)) (same_by (like x y) (like x c) (found_in like y c xs) e)

  module _ (except : Option X) where
    kept_calm : (b : Bool) (f : Found) (j : Joined X) (y : X) → (cond b j (add_by like opposite f j y)).clash ≡ false → j.clash ≡ false
    kept_calm true f j y e = e
    kept_calm false found.Same j y e = e
    kept_calm false found.Opposite j y e = absurd (both_ways true e refl)
    kept_calm false found.Neither j y e = e

    calm : (ys : List X) (j : Joined X) → (join like opposite except j ys).clash ≡ false → j.clash ≡ false
    calm [] j e = e
    calm (y ∷ ys) j e = kept_calm (is_except like except y) (found_in like y (opposite y) j.clause) j y (calm ys (add like opposite except j y) e)

    added : (b : Bool) (f : Found) (j : Joined X) (y x : X) → is_except like except y ≡ b → found_in like y (opposite y) j.clause ≡ f → (cond b j (add_by like opposite f j y)).clash ≡ false → member like x (cond b j (add_by like opposite f j y)).clause ≡ (member like x j.clause || (like y x && not (is_except like except x)))
    added true f j y x p q e =
        sym (or_less (member like x j.clause) (like y x && not (is_except like except x)) (λ t.
        let both = and_parts (like y x) (not (is_except like except x)) t in
        absurd (both_ways _ (ap not (sym (except_like except y x both.0) ∙ p)) both.1)))
    added false found.Same j y x p q e =
        sym (or_less (member like x j.clause) (like y x && not (is_except like except x)) (λ t.
        sym (member_like y x (and_parts (like y x) (not (is_except like except x)) t).0 j.clause) ∙ found_same y (opposite y) j.clause q))
    added false found.Opposite j y x p q e = absurd (both_ways true e refl)
    added false found.Neither j y x p q e =
        list_any-append (λ z. like z x) j.clause (y ∷ [])
        ∙ ap (λ b. member like x j.clause || b) (or_kept (like y x) (is_except like except x) (λ l. sym (except_like except y x l) ∙ p))

    -- what the joined clause has
    pub join_member : (ys : List X) (j : Joined X) → (join like opposite except j ys).clash ≡ false → (x : X) → member like x (join like opposite except j ys).clause ≡ (member like x j.clause || (member like x ys && not (is_except like except x)))
    join_member [] j e x = sym (or-false (member like x j.clause))
    join_member (y ∷ ys) j e x =
        join_member ys (add like opposite except j y) e x
        ∙ ap (λ b. b || (member like x ys && not (is_except like except x)))
        (added _ _ j y x refl refl (calm ys (add like opposite except j y) e))
        ∙ or_turn (member like x j.clause) (like y x) (member like x ys) (not (is_except like except x))

  -- truth of a clause by that of its literals
  module _ (holds : X → Bool) (respects : (x y : X) → like x y ≡ true → holds x ≡ holds y) (truth : List X → Bool) (none : truth [] ≡ false) (more : (x : X) (xs : List X) → truth (x ∷ xs) ≡ (holds x || truth xs)) where
    pub true_by : (xs : List X) → truth xs ≡ true → (x : X) × ((member like x xs ≡ true) × (holds x ≡ true))
    true_by [] e = absurd (both_ways (truth []) none e)
    true_by (x ∷ xs) e =
        ⊎_elim
        (λ h. (x, (or_left (like x x) (member like x xs) (itself x), h)))
        (λ t. let r = true_by xs t in (r.0, (or_right (like x r.0) (member like r.0 xs) r.1.0, r.1.1)))
        (or_cases (holds x) (truth xs) (sym (more x xs) ∙ e))

    pub true_at : (x : X) (xs : List X) → member like x xs ≡ true → holds x ≡ true → truth xs ≡ true
    true_at x [] m h = absurd (both_ways false refl m)
    true_at x (y ∷ ys) m h =
        more y ys
        ∙ ⊎_elim (λ l. or_left (holds y) (truth ys) (respects y x l ∙ h)) (λ r. or_right (holds y) (truth ys) (true_at x ys r h)) (or_cases (like y x) (member like x ys) m)

    pub contained_truth : (c goal : List X) → contained like c goal ≡ true → truth c ≡ true → truth goal ≡ true
    contained_truth c goal e t = let r = true_by c t in true_at r.0 goal (contained_member c goal e r.0 r.1.0) r.1.1

    pub once_truth : (premise : List X) → truth premise ≡ true → (once like opposite premise).clash ≡ false → truth (once like opposite premise).clause ≡ true
    once_truth premise t e =
        let r = true_by premise t in
        true_at r.0 _ (join_member None premise (joined [] false) e r.0 ∙ ap (λ b. b && true) r.1.0) r.1.1

    pub resolvent_truth : ((x : X) → holds (opposite x) ≡ not (holds x)) → (first second : List X) (position : ℕ) (pivot : X) → truth first ≡ true → truth second ≡ true → pivot_at opposite first position ≡ Some pivot → (resolvent like opposite first second pivot position).clash ≡ false → truth (resolvent like opposite first second pivot position).clause ≡ true
    resolvent_truth flips first second position pivot t u p e =
        let s = pivot_split opposite first position pivot p in
        let before : List X = take (position - 1) first in
        let behind : List X = drop position first in
        let has = join_member (Some pivot) second (joined (before ++ behind) false) e in
        ⊎_elim
        (λ h.
        let r = true_by second u in
        let off : holds pivot ≡ false = ap holds s.1.0 ∙ flips s.0 ∙ ap not h in
        let other : like r.0 pivot ≡ false = ⊎_elim (λ l. absurd (both_ways _ (respects r.0 pivot l ∙ off) r.1.1)) (λ f. f) (cases_Bool (like r.0 pivot)) in
        true_at r.0 _ (has r.0 ∙ or_right (member like r.0 (before ++ behind)) _ (ap (λ b. b && not (like r.0 pivot)) r.1.0 ∙ ap not other)) r.1.1)
        (λ f.
        let r = true_by first t in
        let other : like s.0 r.0 ≡ false = ⊎_elim (λ l. absurd (both_ways _ (sym (respects s.0 r.0 l) ∙ f) r.1.1)) (λ f. f) (cases_Bool (like s.0 r.0)) in
        let there : member like r.0 (before ++ behind) ≡ true =
        list_any-append (λ z. like z r.0) before behind ∙ ap (λ b. member like r.0 before || (b || member like r.0 behind)) (sym other)
        ∙ sym (list_any-append (λ z. like z r.0) before (s.0 ∷ behind)) ∙ ap (member like r.0) (sym s.1.1) ∙ r.1.0 in
        true_at r.0 _ (has r.0 ∙ or_left (member like r.0 (before ++ behind)) _ there) r.1.1)
        (cases_Bool (holds s.0))
