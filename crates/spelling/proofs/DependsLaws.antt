-- Sets of dependencies: how one grows by a universal, and that the universals tell it.
use Rattle.std.proofs.Common.{◌≡◌, ℕ, ◌-◌, ◌≤◌, Bool, true, false, ◌&&◌, ◌||◌, eqb, leb, List, [], ◌∷◌, ◌++◌, length, get_or, sym, refl, ap, ◌∙◌, ap₂, ⊎_elim, arith}
use Rattle.std.proofs.ByRecursion.{All-push}
use Rattle.std.proofs.lemmas.Bool.{and_from, and_parts, both_ways, cases_Bool, eqb-true, eq-eqb, le-leb, leb-true}
use Rattle.std.proofs.lemmas.Bool.Decides.{nat_tests}
use Rattle.base.specs.declared.values.ValueWord.{ValueWord}
use Rattle.base.specs.Words.{empty_word, single_word, union_word, has_bit, position}
use Rattle.base.proofs.WordLaws.{has_empty, has_single, has_union, empty_bound, single_bound, union_bound, same_word}
use Rattle.spelling.specs.Dqbf.{member, Distinct}
use Rattle.spelling.specs.FormulaGrammar.{Depends}
use Rattle.spelling.proofs.PrefixLaws.{Stands, member_get_or, member_push, distinct_push, place_once}

-- k is a place in the list
abbrev placed : List ℕ → ℕ → Bool
placed us k = leb 1 k && leb k (length us)

and_none : (b : Bool) → (b && false) ≡ false
and_none true = refl
and_none false = refl

and_spread : (r m t : Bool) → ((r && m) || (r && t)) ≡ (r && (m || t))
and_spread true m t = refl
and_spread false m t = refl

-- of distinct numbers, the one at place k stands at j just if j is k
stands_only : (us : List ℕ) (u k j : ℕ) → Distinct us → Stands us u k → eqb k j ≡ (placed us j && eqb u (get_or us (j - 1) 0))
stands_only us u k j d (low, high, at) =
    let x = get_or us (j - 1) 0 in
    ⊎_elim
    (λ t.
    let s = eqb-true k j t in
    let p : placed us j ≡ true = and_from (leb 1 j) (leb j (length us)) (le-leb 1 j (omega arith)) (le-leb j (length us) (omega arith)) in
    t ∙ sym (and_from (placed us j) (eqb u x) p (eq-eqb u x (sym at ∙ ap (λ i. get_or us (i - 1) 0) s))))
    (λ f.
    ⊎_elim
    (λ t.
    let p = and_parts (placed us j) (eqb u x) t in
    let r = and_parts (leb 1 j) (leb j (length us)) p.0 in
    let a = leb-true 1 j r.0 in
    let b = leb-true j (length us) r.1 in
    let s = place_once us (k - 1) (j - 1) d (omega arith) (omega arith) (at ∙ eqb-true u x p.1) in
    absurd (both_ways (eqb k j) f (eq-eqb k j (omega arith))))
    (λ t. f ∙ sym t)
    (cases_Bool (placed us j && eqb u x)))
    (cases_Bool (eqb k j))

pub depends_none : (us : List ℕ) → Depends us [] empty_word
depends_none us = record {
  distinct = tt;
  declared = tt;
  bound = empty_bound;
  positions = λ k. has_empty k ∙ sym (and_none (placed us k));
}

-- whether a universal's position is in the set
pub depends_has : (us read : List ℕ) (w : ValueWord) (u k : ℕ) → Depends us read w → Stands us u k → has_bit w k ≡ member u read
depends_has us read w u k h (low, high, at) =
    let p : placed us k ≡ true = and_from (leb 1 k) (leb k (length us)) (le-leb 1 k low) (le-leb k (length us) high) in
    h.positions k ∙ ap₂ (λ b x. b && member x read) p at

pub depends_push : (us read : List ℕ) (w : ValueWord) (u k : ℕ) → length us ≤ 64 → Distinct us → Depends us read w → Stands us u k → member u read ≡ false → Depends us (read ++ u ∷ []) (union_word w (single_word k))
depends_push us read w u k few d h s new =
    let low = s.0 in
    let high = s.1 in
    let fits : position k ≡ true = grind (arith, nat_tests) in
    let there : member u us ≡ true = ap (λ x. member x us) (sym s.2) ∙ member_get_or us (k - 1) (omega arith) in
    record {
      distinct = distinct_push read u h.distinct new;
      declared = All-push _ read u h.declared there;
      bound = union_bound w (single_word k) h.bound (single_bound k);
      positions = λ j.
          has_union w (single_word k) j
          ∙ ap₂ (λ a b. a || b) (h.positions j) (has_single k j fits ∙ stands_only us u k j d s)
          ∙ and_spread (placed us j) (member (get_or us (j - 1) 0) read) (eqb u (get_or us (j - 1) 0))
          ∙ ap (λ b. placed us j && b) (sym (member_push (get_or us (j - 1) 0) read u));
    }

pub depends_same : (us read : List ℕ) (a b : ValueWord) → Depends us read a → Depends us read b → a ≡ b
depends_same us read a b p q = same_word a b p.bound q.bound (λ k. p.positions k ∙ sym (q.positions k))
