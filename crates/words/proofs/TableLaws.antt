-- Tables that are filled from the front, and the rest of a table that is handed on.
use Rattle.std.proofs.Common.{◌≡◌, ℕ, zero, suc, ◌+◌, ◌-◌, ◌≤◌, List, [], ◌∷◌, ◌++◌, length, get_or, take, drop, set, replicate, sym, refl, ap, ◌∙◌, append-nil, arith, length-append}
use lib.ListN.{length-replicate}
use lib.Seq.{take-append-add, drop-append_seam}
use borrow.Rule.Slice.PartMut.{put_mid}
use Rattle.std.proofs.lemmas.List.{drop_all, drop-drop, length-take-le, take_rest, length-drop, drop-set-lt, take-append-drop, drop-replicate}
use Rattle.words.specs.Tables.{padded}

-- what a table holds after `&mut xs[at..]` was handed on and came back as ys
module _ {X : Type 0} (at : ℕ) (xs ys : List X) (inside : at ≤ length xs) where
  pub put_rest : put_mid at (length xs - at) xs ys ≡ take at xs ++ ys
  put_rest =
      ap (λ l. take at xs ++ l)
      (ap (λ l. ys ++ l) (drop-drop (length xs - at) at xs ∙ drop_all (at + (length xs - at)) xs (omega arith)) ∙ append-nil ys)

  front : length (take at xs) ≡ at
  front = length-take-le at xs inside

  pub take_put_rest : (n : ℕ) → take (at + n) (put_mid at (length xs - at) xs ys) ≡ take at xs ++ take n ys
  take_put_rest n =
      ap (take (at + n)) put_rest ∙ ap (λ k. take (k + n) (take at xs ++ ys)) (sym front) ∙ take-append-add (take at xs) ys n

  pub drop_put_rest : (n : ℕ) → drop (at + n) (put_mid at (length xs - at) xs ys) ≡ drop n ys
  drop_put_rest n =
      ap (drop (at + n)) put_rest ∙ ap (λ k. drop (k + n) (take at xs ++ ys)) (sym front)
      ∙ sym (drop-drop n (length (take at xs)) (take at xs ++ ys)) ∙ ap (drop n) (drop-append_seam (take at xs) ys)

  pub length_part : length (take (length xs - at) (drop at xs)) ≡ length xs - at
  length_part = ap length (take_rest xs at) ∙ length-drop at xs

-- one more entry is written: what stands behind it is as it was
pub drop_more_set : {X : Type 0} (xs ys : List X) (n : ℕ) (v : X) → drop n xs ≡ drop n ys → drop (n + 1) (set xs n v) ≡ drop (n + 1) ys
drop_more_set xs ys n v e = drop-set-lt (n + 1) xs n v (omega arith) ∙ sym (drop-drop 1 n xs) ∙ ap (drop 1) e ∙ drop-drop 1 n ys

-- a table that held zeros, with n entries written at its front
pub padded_is : {X : Type 0} (none : X) (n room : ℕ) (xs ys : List X) → ys ≡ replicate room none → n ≤ length ys → length xs ≡ length ys → drop n xs ≡ drop n ys → xs ≡ padded none (take n xs) room
padded_is none n room xs ys z h l e =
    sym (take-append-drop n xs)
    ∙ ap (λ t. take n xs ++ t) (e ∙ ap (drop n) z ∙ drop-replicate n room none ∙ ap (λ k. replicate (room - k) none) (sym (length-take-le n xs (omega arith))))

-- an entry that is not there reads as zero, so zeros behind a table change no read of it
pub get_or_zeros : {X : Type 0} (none : X) (n i : ℕ) → get_or (replicate n none) i none ≡ none
get_or_zeros none zero i = refl
get_or_zeros none (suc n) zero = refl
get_or_zeros none (suc n) (suc i) = get_or_zeros none n i

pub get_or_padded : {X : Type 0} (none : X) (xs : List X) (n i : ℕ) → get_or (xs ++ replicate n none) i none ≡ get_or xs i none
get_or_padded none [] n i = get_or_zeros none n i
get_or_padded none (x ∷ xs) n zero = refl
get_or_padded none (x ∷ xs) n (suc i) = get_or_padded none xs n i

-- how long a padded table is, and the same table by its own length
pub length_padded : {X : Type 0} (none : X) (xs : List X) (n : ℕ) → length xs ≤ n → length (padded none xs n) ≡ n
length_padded none xs n h = simp (length-append, length-replicate) (omega arith)

pub padded_at : {X : Type 0} (none : X) (xs ys : List X) (n : ℕ) → length xs ≤ n → ys ≡ padded none xs n → (length xs ≤ length ys) × (ys ≡ padded none xs (length ys))
padded_at none xs ys n h e =
    let l : length ys ≡ n = ap length e ∙ length_padded none xs n h in
    (omega arith, e ∙ ap (padded none xs) (sym l))
