-- Laws of clauses of entries: what they have, and that what is made from true clauses is true.
use Rattle.std.proofs.Common.{◌≡◌, ℕ, true, false, not, ◌&&◌, ◌||◌, List, [], ◌∷◌, ◌++◌, Some, Option, refl, ap, ⊎_elim}
use Rattle.std.proofs.lemmas.Bool.{both_ways, or_cases, or_left, or_right}
use Rattle.clauses.specs.declared.entry.Entry.{Entry}
use Rattle.clauses.specs.Worlds.{World, same_entry, complement_entry, true_in}
use Rattle.clauses.specs.Clauses.{member, contained, is_except, Joined, join, once, pivot_at, resolvent}
use Rattle.clauses.proofs.ClauseLaws as laws
use Rattle.clauses.specs.EntryLaws.{same_itself, same_from, same_back, same_through}

pub member_split : (x : Entry) (ys : List Entry) → member same_entry x ys ≡ true → (before : List Entry) × ((behind : List Entry) × (ys ≡ before ++ x ∷ behind))
member_split x [] m = absurd (both_ways false refl m)
member_split x (y ∷ ys) m =
    ⊎_elim
    (λ l. ([], (ys, ap (λ z. z ∷ ys) (same_from y x l))))
    (λ r. let s = member_split x ys r in (y ∷ s.0, (s.1.0, ap (λ l. y ∷ l) s.1.1)))
    (or_cases (same_entry y x) (member same_entry x ys) m)

pub member_here : (x : Entry) (before behind : List Entry) → member same_entry x (before ++ x ∷ behind) ≡ true
member_here x [] behind = or_left (same_entry x x) (member same_entry x behind) (same_itself x)
member_here x (y ∷ before) behind = or_right (same_entry y x) (member same_entry x (before ++ x ∷ behind)) (member_here x before behind)

pub join_member : (except : Option Entry) (j : Joined Entry) (ys : List Entry) → (join same_entry complement_entry except j ys).clash ≡ false → (x : Entry) → member same_entry x (join same_entry complement_entry except j ys).clause ≡ (member same_entry x j.clause || (member same_entry x ys && not (is_except same_entry except x)))
join_member except j ys e x = laws.join_member same_entry complement_entry same_itself same_back same_through except ys j e x

module _ (w : World) where
  respects : (x y : Entry) → same_entry x y ≡ true → w.holds x ≡ w.holds y
  respects x y e = ap (λ a. w.holds a) (same_from x y e)

  pub true_by : (c : List Entry) → true_in w c ≡ true → (x : Entry) × ((member same_entry x c ≡ true) × (w.holds x ≡ true))
  true_by = laws.true_by same_entry complement_entry same_itself same_back same_through w.holds respects (true_in w) refl (λ _ _. refl)

  pub true_at : (x : Entry) (c : List Entry) → member same_entry x c ≡ true → w.holds x ≡ true → true_in w c ≡ true
  true_at = laws.true_at same_entry complement_entry same_itself same_back same_through w.holds respects (true_in w) refl (λ _ _. refl)

  pub contained_true : (c goal : List Entry) → contained same_entry c goal ≡ true → true_in w c ≡ true → true_in w goal ≡ true
  contained_true = laws.contained_truth same_entry complement_entry same_itself same_back same_through w.holds respects (true_in w) refl (λ _ _. refl)

  pub once_true : (premise : List Entry) → true_in w premise ≡ true → (once same_entry complement_entry premise).clash ≡ false → true_in w (once same_entry complement_entry premise).clause ≡ true
  once_true = laws.once_truth same_entry complement_entry same_itself same_back same_through w.holds respects (true_in w) refl (λ _ _. refl)

  pub resolvent_true : (first second : List Entry) (position : ℕ) (pivot : Entry) → true_in w first ≡ true → true_in w second ≡ true → pivot_at complement_entry first position ≡ Some pivot → (resolvent same_entry complement_entry first second pivot position).clash ≡ false → true_in w (resolvent same_entry complement_entry first second pivot position).clause ≡ true
  resolvent_true = laws.resolvent_truth same_entry complement_entry same_itself same_back same_through w.holds respects (true_in w) refl (λ _ _. refl) w.one
