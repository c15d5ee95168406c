-- Numbers written in decimal digits, read back as words.
use Rattle.std.proofs.Common.{◌≡◌, ℕ, ◌^◌, ◌<◌, ◌≤◌, Bool, true, false, not, ◌&&◌, ◌||◌, eqb, ltb, ◌⊎◌, List, [], ◌∷◌, length, get_or, drop, Some, None, ap, ◌∙◌, inl, inr, ⊎_elim, arith, rules}
use Rattle.std.specs.Fmt as written
use Rattle.std.specs.List.{AllByRecursion}
use Rattle.std.proofs.lemmas.Fmt.{digits_decimal, digits_value-decimal, length-decimal-le, decimal_nonempty, first_decimal, decimal_digit, decimal-digits_value}
use Rattle.std.proofs.lemmas.Str.Parse.{IsNumeralModel, IsDigitsTest, numerals_by_fold, digits_value_short}
use Rattle.std.proofs.lemmas.Bool.{cond-true, cond-false, and_parts, cases_eq}
use Rattle.std.proofs.ByRecursion.{All-weaker}
use Rattle.std.proofs.lemmas.Bool.Decides.{nat_tests}
use Rattle.words.specs.Forms.{blank, digit_byte, digits, decimal, number_form, number_value, minus, negative_by, positive_by, numeral_value}

-- the decimal digits of a number, without leading zeros
unfoldable pub decimal_bytes : ℕ → List ℕ
decimal_bytes n = written.decimal n

tells_digits : IsDigitsTest (λ ds. digits ds ≡ true)
tells_digits = search rules

own : IsNumeralModel (λ ds. digits ds ≡ true) (decimal 0)
own = numerals_by_fold _ tells_digits decimal (search rules)

module _ (n : ℕ) (small : n < 10 ^ 9) where
  pub digits_decimal_bytes : digits (decimal_bytes n) ≡ true
  unfolding decimal_bytes
  digits_decimal_bytes = digits_decimal own n (omega arith)

  pub value_decimal_bytes : decimal 0 (decimal_bytes n) ≡ n
  unfolding decimal_bytes
  value_decimal_bytes = digits_value-decimal own n (omega arith)

  pub decimal_bytes_some : 0 < length (decimal_bytes n)
  unfolding decimal_bytes
  decimal_bytes_some = decimal_nonempty n (omega arith)

  pub decimal_bytes_short : length (decimal_bytes n) ≤ 9
  unfolding decimal_bytes
  decimal_bytes_short = length-decimal-le 9 n (omega arith) small (omega arith)

  first_some : 0 < n → 48 < get_or (decimal_bytes n) 0 0
  unfolding decimal_bytes
  first_some h = first_decimal n h (omega arith)

  first_zero : n ≡ 0 → length (decimal_bytes n) ≡ 1
  unfolding decimal_bytes
  first_zero e = ap length (decimal_digit n (omega arith))

  -- only a lone digit is 0 in front
  first_fact : (length (decimal_bytes n) ≤ 1) ⊎ (48 < get_or (decimal_bytes n) 0 0)
  first_fact = ⊎_elim (λ e. inl (omega (arith, first_zero e))) (λ ne. inr (first_some (omega arith))) (cases_eq n 0)

form_from : (len first : ℕ) (d : Bool) → 0 < len → len ≤ 9 → (len ≤ 1) ⊎ (48 < first) → d ≡ true → (not (eqb len 0 || ltb 9 len || (ltb 1 len && eqb first 48)) && d) ≡ true
form_from len first d a b c e = grind (arith, nat_tests)

form_parts : (len first : ℕ) (d : Bool) → (not (eqb len 0 || ltb 9 len || (ltb 1 len && eqb first 48)) && d) ≡ true → (d ≡ true) × (0 < len) × (len ≤ 9) × (first ≡ 48 → len ≡ 1)
form_parts len first d e = (grind (arith, nat_tests), grind (arith, nat_tests), grind (arith, nat_tests), λ z. grind (arith, nat_tests))

digit_low : (b : ℕ) → digit_byte b ≡ true → (48 ≤ b) × (b ≤ 57)
digit_low b e = (grind (arith, nat_tests), grind (arith, nat_tests))

digit_no_blank : (b : ℕ) → digit_byte b ≡ true → blank b ≡ false
digit_no_blank b e = let h = digit_low b e in grind (arith, nat_tests)

all_digits : (bs : List ℕ) → digits bs ≡ true → AllByRecursion (λ b. digit_byte b ≡ true) bs
all_digits [] e = tt
all_digits (b ∷ bs) e = let h = and_parts (digit_byte b) (digits bs) e in (h.0, all_digits bs h.1)

first_digit : (bs : List ℕ) → 0 < length bs → digits bs ≡ true → digit_byte (get_or bs 0 0) ≡ true
first_digit [] h e = absurd (omega arith)
first_digit (b ∷ bs) h e = (and_parts (digit_byte b) (digits bs) e).0

minus_none : (bs : List ℕ) → digit_byte (get_or bs 0 0) ≡ true → minus bs ≡ false
minus_none bs e = let h = digit_low (get_or bs 0 0) e in grind (arith, nat_tests)

minus_front : (bs : List ℕ) → minus (45 ∷ bs) ≡ true
minus_front bs = grind (arith, nat_tests)

module _ (n : ℕ) (small : n < 10 ^ 9) where
  pub number_form_decimal : number_form (decimal_bytes n) ≡ true
  number_form_decimal = form_from (length (decimal_bytes n)) (get_or (decimal_bytes n) 0 0) (digits (decimal_bytes n)) (decimal_bytes_some n small) (decimal_bytes_short n small) (first_fact n small) (digits_decimal_bytes n small)

  pub number_decimal : number_value (decimal_bytes n) ≡ Some n
  number_decimal = cond-true (number_form (decimal_bytes n)) (Some (decimal 0 (decimal_bytes n))) None number_form_decimal ∙ ap Some (value_decimal_bytes n small)

  pub decimal_bytes_digits : AllByRecursion (λ b. digit_byte b ≡ true) (decimal_bytes n)
  decimal_bytes_digits = all_digits (decimal_bytes n) (digits_decimal_bytes n small)

  pub decimal_bytes_first : (48 ≤ get_or (decimal_bytes n) 0 0) × (get_or (decimal_bytes n) 0 0 ≤ 57)
  decimal_bytes_first = digit_low (get_or (decimal_bytes n) 0 0) (first_digit (decimal_bytes n) (decimal_bytes_some n small) (digits_decimal_bytes n small))

  pub decimal_bytes_no_minus : minus (decimal_bytes n) ≡ false
  decimal_bytes_no_minus = minus_none (decimal_bytes n) (first_digit (decimal_bytes n) (decimal_bytes_some n small) (digits_decimal_bytes n small))

  pub decimal_bytes_low : AllByRecursion (λ b. b < 256) (decimal_bytes n)
  decimal_bytes_low = All-weaker (λ b. digit_byte b ≡ true) (λ b. b < 256) (λ b e. omega (arith, digit_low b e)) (decimal_bytes n) decimal_bytes_digits

  pub decimal_bytes_inked : AllByRecursion (λ b. blank b ≡ false) (decimal_bytes n)
  decimal_bytes_inked = All-weaker (λ b. digit_byte b ≡ true) (λ b. blank b ≡ false) digit_no_blank (decimal_bytes n) decimal_bytes_digits

  pub numeral_positive : numeral_value (decimal_bytes n) ≡ Some (record { negative = false; value = n })
  numeral_positive =
      cond-false (minus (decimal_bytes n)) (negative_by (number_value (drop 1 (decimal_bytes n)))) (positive_by (number_value (decimal_bytes n))) decimal_bytes_no_minus
      ∙ ap positive_by number_decimal

  pub numeral_negative : 0 < n → numeral_value (45 ∷ decimal_bytes n) ≡ Some (record { negative = true; value = n })
  numeral_negative h =
      cond-true (minus (45 ∷ decimal_bytes n)) (negative_by (number_value (decimal_bytes n))) (positive_by (number_value (45 ∷ decimal_bytes n))) (minus_front (decimal_bytes n))
      ∙ ap negative_by number_decimal
      ∙ cond-false (eqb n 0) None (Some (record { negative = true; value = n })) (grind (arith, nat_tests))

-- digits without leading zeros are what is written of their value
pub decimal_bytes_of : (ds : List ℕ) → number_form ds ≡ true → decimal_bytes (decimal 0 ds) ≡ ds
unfolding decimal_bytes
decimal_bytes_of ds e =
    let h = form_parts (length ds) (get_or ds 0 0) (digits ds) e in
    decimal-digits_value own ds h.0 h.1 h.3 (omega (arith, digits_value_short own ds 9 h.0 h.2))
