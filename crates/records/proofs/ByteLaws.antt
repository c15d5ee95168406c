-- The elements of a list from an index on, one by one.
use Rattle.std.proofs.Common.{◌≡◌, ℕ, zero, suc, ◌+◌, ◌<◌, ◌≤◌, List, [], ◌∷◌, ◌++◌, length, get_or, drop, Fits, w8, ap, ◌∙◌, arith}
use Rattle.std.proofs.lemmas.List.{drop_more}

abbrev pub elements : List ℕ → ℕ → ℕ → List ℕ
elements bs at zero = []
elements bs at (suc n) = get_or bs at 0 ∷ elements bs (at + 1) n

pub elements_bytes : (bs : List ℕ) (at n : ℕ) → ((i : ℕ) → Fits w8 (get_or bs i 0)) → (i : ℕ) → get_or (elements bs at n) i 0 < 256
elements_bytes bs at zero bytes i = omega arith
elements_bytes bs at (suc n) bytes zero = omega (arith, bytes at)
elements_bytes bs at (suc n) bytes (suc i) = elements_bytes bs (at + 1) n bytes i

-- the list from an index on: n elements, and those behind
pub split_at : (n : ℕ) (bs : List ℕ) (at : ℕ) → at + n ≤ length bs → drop at bs ≡ elements bs at n ++ drop (at + n) bs
split_at zero bs at h = ap (λ k. drop k bs) (let e : at ≡ at + 0 = omega arith in e)
split_at (suc n) bs at h =
    let more = drop_more bs at 0 (omega arith) in
    let rest = split_at n bs (at + 1) (omega arith) in
    let same : at + 1 + n ≡ at + suc n = omega arith in
    more ∙ ap (λ (l : List ℕ). get_or bs at 0 ∷ l) (rest ∙ ap (λ k. elements bs (at + 1) n ++ drop k bs) same)
