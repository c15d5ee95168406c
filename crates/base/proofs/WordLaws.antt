-- Laws of words of values: which positions each word has, and when two words are the same.
use Rattle.std.proofs.Common.{◌≡◌, ℕ, zero, suc, ◌-◌, ◌/◌, ◌%◌, ◌^◌, ◌<◌, ◌≤◌, min, max, true, false, ◌&&◌, ◌||◌, eqb, ltb, leb, sym, refl, ap, ◌∙◌, ⊎_elim, pow-suc, one-add, arith, pow_mono}
use native.Mathlib.Nat.{zero-div, div-eq_of_lt}
use lib.Bits.{bit_and, bit_or, and_step, or_step, and_shr, or_shr, and_lt, or_lt}
use lib.Dec.{eqb-suc-suc}
use Rattle.std.proofs.lemmas.Nat.{pow_pos, pow_below, shr-shr}
use Rattle.std.proofs.lemmas.Bool.{and_from, and_parts, cases_lt, cond_both, eq-eqb, eqb-true, leb-false, lt-ltb, ltb-true}
use Rattle.std.proofs.lemmas.Bool.Decides.{nat_tests}
use Rattle.base.specs.declared.values.ValueWord.{ValueWord}
use Rattle.base.specs.Words.{position, empty_word, first_word, single_word, union_word, common_word, has_bit, within_word, equal_words}

-- bit j of a number, and the bits of what the words are made by
abbrev bit : ℕ → ℕ → ℕ
bit j a = a / 2 ^ j % 2

bit_suc : (j a : ℕ) → bit (suc j) a ≡ bit j (a / 2)
bit_suc j a = rw (← one-add j, ← shr-shr a 1 j)

bit_zero : (j : ℕ) → bit j 0 ≡ 0
bit_zero j = omega (arith, zero-div (2 ^ j))

bit_high : (j a : ℕ) → a < 2 ^ j → bit j a ≡ 0
bit_high j a h = omega (arith, div-eq_of_lt h)

bit_of_and : (j a b : ℕ) → bit j (bit_and a b) ≡ min (bit j a) (bit j b)
bit_of_and j a b = omega (arith, and_shr a b j, and_step (a / 2 ^ j) (b / 2 ^ j))

bit_of_or : (j a b : ℕ) → bit j (bit_or a b) ≡ max (bit j a) (bit j b)
bit_of_or j a b = omega (arith, or_shr a b j, or_step (a / 2 ^ j) (b / 2 ^ j))

bit_power : (j i : ℕ) → eqb (bit j (2 ^ i)) 1 ≡ eqb i j
bit_power zero zero = refl
bit_power zero (suc i) = grind (arith, nat_tests, pow-suc 2 i)
bit_power (suc j) zero = grind (arith, nat_tests, bit_suc j 1, bit_zero j)
bit_power (suc j) (suc i) =
    let half : 2 ^ suc i / 2 ≡ 2 ^ i = omega (arith, pow-suc 2 i) in
    ap (λ n. eqb n 1) (bit_suc j (2 ^ suc i) ∙ ap (bit j) half) ∙ bit_power j i ∙ sym (eqb-suc-suc i j)

-- 2 ^ k - 1 - b is b with each of its k bits turned over
bit_not : (k j b : ℕ) → b < 2 ^ k → j < k → bit j (2 ^ k - 1 - b) ≡ 1 - bit j b
bit_not zero j b lb h = omega arith
bit_not (suc k) zero b lb h = omega (arith, pow-suc 2 k)
bit_not (suc k) (suc j) b lb h =
    let p = pow-suc 2 k in
    let half : (2 ^ suc k - 1 - b) / 2 ≡ 2 ^ k - 1 - b / 2 = omega arith in
    let rest = bit_not k j (b / 2) (omega arith) (omega arith) in
    bit_suc j (2 ^ suc k - 1 - b) ∙ ap (bit j) half ∙ rest ∙ ap (λ n. 1 - n) (sym (bit_suc j b))

bit_ones : (j n : ℕ) → eqb (bit j (2 ^ n - 1)) 1 ≡ ltb j n
bit_ones j n =
    ⊎_elim
    (λ h. grind (arith, nat_tests, bit_not n j 0 (pow_pos n) h, bit_zero j))
    (λ h. grind (arith, nat_tests, bit_high j (2 ^ n - 1) (omega (arith, pow_pos n, pow_mono h))))
    (cases_lt j n)

-- a number of k bits is known by its bits
same_bits : (k a b : ℕ) → a < 2 ^ k → b < 2 ^ k → ((j : ℕ) → j < k → bit j a ≡ bit j b) → a ≡ b
same_bits zero a b la lb e = omega arith
same_bits (suc k) a b la lb e =
    let p = pow-suc 2 k in
    let half = same_bits k (a / 2) (b / 2) (omega arith) (omega arith) (λ j h. sym (bit_suc j a) ∙ e (suc j) (omega arith) ∙ bit_suc j b) in
    let low = e 0 (omega arith) in
    omega arith

-- the positions of each word
pub has_empty : (k : ℕ) → has_bit empty_word k ≡ false
unfolding has_bit empty_word
has_empty k = grind (arith, nat_tests, bit_zero (k - 1))

pub has_union : (a b : ValueWord) (k : ℕ) → has_bit (union_word a b) k ≡ (has_bit a k || has_bit b k)
unfolding has_bit union_word
has_union a b k = grind (arith, nat_tests, bit_of_or (k - 1) a.bits b.bits)

pub has_common : (a b : ValueWord) (k : ℕ) → has_bit (common_word a b) k ≡ (has_bit a k && has_bit b k)
unfolding has_bit common_word
has_common a b k = grind (arith, nat_tests, bit_of_and (k - 1) a.bits b.bits)

pub has_single : (j k : ℕ) → position j ≡ true → has_bit (single_word j) k ≡ eqb j k
unfolding has_bit single_word
has_single j k h = grind (arith, nat_tests, bit_power (k - 1) (j - 1))

pub has_first : (n k : ℕ) → n ≤ 64 → has_bit (first_word n) k ≡ (leb 1 k && leb k n)
unfolding has_bit first_word
has_first n k h = grind (arith, nat_tests, bit_ones (k - 1) n)

-- each word fits 64 bits
pub empty_bound : empty_word.bits < 2 ^ 64
unfolding empty_word
empty_bound = omega arith

pub first_bound : (n : ℕ) → (first_word n).bits < 2 ^ 64
unfolding first_word
first_bound n = cond_both (leb 64 n) _ _ (λ x. x < 2 ^ 64) (λ e. omega arith) (λ e. omega (arith, pow_below n 64 (leb-false 64 n e)))

pub single_bound : (k : ℕ) → (single_word k).bits < 2 ^ 64
unfolding single_word
single_bound k = cond_both (position k) _ _ (λ x. x < 2 ^ 64) (λ e. pow_below (k - 1) 64 (grind (arith, nat_tests))) (λ e. omega arith)

pub union_bound : (a b : ValueWord) → a.bits < 2 ^ 64 → b.bits < 2 ^ 64 → (union_word a b).bits < 2 ^ 64
unfolding union_word
union_bound a b la lb = or_lt 64 a.bits b.bits la lb

pub common_bound : (a b : ValueWord) → a.bits < 2 ^ 64 → b.bits < 2 ^ 64 → (common_word a b).bits < 2 ^ 64
unfolding common_word
common_bound a b la lb = and_lt 64 a.bits b.bits la lb

-- bit j is the bit of position j + 1
has_at : (a : ValueWord) (j : ℕ) → j < 64 → has_bit a (suc j) ≡ eqb (bit j a.bits) 1
unfolding has_bit
has_at a j h = grind (arith, nat_tests)

-- a word that is within another fits 64 bits
pub within_bound : (a b : ValueWord) → within_word a b ≡ true → a.bits < 2 ^ 64
unfolding within_word
within_bound a b w = ltb-true a.bits (2 ^ 64) (and_parts (ltb a.bits (2 ^ 64)) (eqb (bit_and a.bits (2 ^ 64 - 1 - b.bits)) 0) w).0

-- a word is within another just where each of its positions is in the other
pub within_yes : (a b : ValueWord) → a.bits < 2 ^ 64 → b.bits < 2 ^ 64 → within_word a b ≡ true → (k : ℕ) → has_bit a k ≡ true → has_bit b k ≡ true
unfolding has_bit within_word
within_yes a b la lb w k h =
    let c = 2 ^ 64 - 1 - b.bits in
    let p : k - 1 < 64 = grind (arith, nat_tests) in
    grind (arith, nat_tests, bit_of_and (k - 1) a.bits c, bit_zero (k - 1), bit_not 64 (k - 1) b.bits lb p)

pub within_from : (a b : ValueWord) → a.bits < 2 ^ 64 → b.bits < 2 ^ 64 → ((k : ℕ) → has_bit a k ≡ true → has_bit b k ≡ true) → within_word a b ≡ true
unfolding within_word
within_from a b la lb f =
    let c = 2 ^ 64 - 1 - b.bits in
    and_from (ltb a.bits (2 ^ 64)) (eqb (bit_and a.bits c) 0) (lt-ltb a.bits (2 ^ 64) la)
    (eq-eqb (bit_and a.bits c) 0
    (same_bits 64 (bit_and a.bits c) 0 (and_lt 64 a.bits c la (omega arith)) (omega arith)
    (λ j h. grind (arith, nat_tests, f (suc j), has_at a j h, has_at b j h, bit_of_and j a.bits c, bit_zero j, bit_not 64 j b.bits lb h))))

-- two words with the same positions are the same word
pub same_word : (a b : ValueWord) → a.bits < 2 ^ 64 → b.bits < 2 ^ 64 → ((k : ℕ) → has_bit a k ≡ has_bit b k) → a ≡ b
same_word a b la lb e =
    let same : a.bits ≡ b.bits = same_bits 64 a.bits b.bits la lb (λ j h. grind (arith, nat_tests, e (suc j), has_at a j h, has_at b j h)) in
    ap (λ (n : ℕ). record { bits = n }) same

-- equality of words by their test
pub equal_itself : (a : ValueWord) → equal_words a a ≡ true
unfolding equal_words
equal_itself a = eq-eqb a.bits a.bits refl

pub equal_from : (a b : ValueWord) → equal_words a b ≡ true → a ≡ b
unfolding equal_words
equal_from a b e = ap (λ n. record { bits = n }) (eqb-true a.bits b.bits e)
