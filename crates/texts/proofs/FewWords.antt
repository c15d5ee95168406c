-- How many words a text can have: each has at least one byte, and a blank stands between two of them.
use Rattle.std.proofs.Common.{◌≡◌, ℕ, ◌+◌, ◌*◌, ◌≤◌, Bool, cond, not, List, [], ◌∷◌, length, take, ap, ◌∙◌, ⊎_elim, one-add, arith}
use Rattle.std.proofs.lemmas.Bool.{cases_Bool}
use Rattle.words.specs.Forms.{blank}
use Rattle.words.specs.Words.{Spelt, inked, classed, cut, words_from}

-- the words of bytes, and those behind the word that the bytes begin with
record Few (bs : List ℕ) (p : ℕ) : Type 0 where
  all : 2 * length (cut 0 bs p) ≤ length bs + 1
  behind : 2 * length (cut (inked bs) bs p) ≤ length bs

few : (bs : List ℕ) (p : ℕ) → Few bs p
few [] p = record { all = omega arith; behind = omega arith }
few (b ∷ bs) p =
    let next = few bs (p + 1) in
    let word = classed (take (inked (b ∷ bs)) (b ∷ bs)) p in
    let cut_at : Bool → List Spelt = λ x. cond x (cut 0 bs (p + 1)) (word ∷ cut (inked bs) bs (p + 1)) in
    let inked_at : Bool → ℕ = λ x. cond (not x) (1 + inked bs) 0 in
    ⊎_elim
    (λ e.
    let here : length (cut 0 (b ∷ bs) p) ≡ length (cut 0 bs (p + 1)) = ap (λ x. length (cut_at x)) e in
    let past : length (cut (inked (b ∷ bs)) (b ∷ bs) p) ≡ length (cut 0 (b ∷ bs) p) = ap (λ x. length (cut (inked_at x) (b ∷ bs) p)) e in
    record { all = omega (arith, next.all); behind = omega (arith, next.all) })
    (λ e.
    let here : length (cut 0 (b ∷ bs) p) ≡ length (word ∷ cut (inked bs) bs (p + 1)) = ap (λ x. length (cut_at x)) e in
    let past : length (cut (inked (b ∷ bs)) (b ∷ bs) p) ≡ length (cut (inked bs) bs (p + 1)) =
    ap (λ x. length (cut (inked_at x) (b ∷ bs) p)) e ∙ ap (λ n. length (cut n (b ∷ bs) p)) (one-add (inked bs)) in
    record { all = omega (arith, next.behind); behind = omega (arith, next.behind) })
    (cases_Bool (blank b))

-- a text of b bytes has at most (b + 1) / 2 words
pub few_words : (text : List ℕ) → 2 * length (words_from text 0) ≤ length text + 1
few_words text = (few text 0).all
