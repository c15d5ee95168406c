-- The forms of words, byte by byte.
use Rattle.std.specs.Prelude.{ℕ, ◌+◌, ◌-◌, ◌*◌, Bool, true, false, cond, not, ◌&&◌, ◌||◌, List, length, drop, Some, None, Option, ◌==◌, nat_le, nat_lt, slice_index}
use Rattle.std.specs.List.{fold, list_all}
use Rattle.words.specs.declared.forms.Numeral.{Numeral}

-- space, tab, carriage return, line feed
abbrev pub blank : ℕ → Bool
blank b = b == 32 || b == 9 || b == 13 || b == 10

abbrev pub letter_byte : ℕ → Bool
letter_byte b = not (nat_lt b 97 || nat_lt 122 b)

abbrev pub digit_byte : ℕ → Bool
digit_byte b = not (nat_lt b 48 || nat_lt 57 b)

abbrev pub letters : List ℕ → Bool
letters bs = list_all letter_byte bs

abbrev pub digits : List ℕ → Bool
digits bs = list_all digit_byte bs

-- the value of digits behind a number that was read so far
abbrev pub decimal : ℕ → List ℕ → ℕ
decimal n bs = fold (λ m b. m * 10 + (b - 48)) n bs

abbrev pub begins_with_zero : List ℕ → Bool
begins_with_zero bs = slice_index bs 0 == 48

-- 0, or up to nine digits that do not begin with 0
abbrev pub number_form : List ℕ → Bool
number_form bs = not (length bs == 0 || nat_lt 9 (length bs) || (nat_lt 1 (length bs) && begins_with_zero bs)) && digits bs

abbrev pub number_value : List ℕ → Option ℕ
number_value bs = cond (number_form bs) (Some (decimal 0 bs)) None

abbrev pub minus : List ℕ → Bool
minus bs = nat_lt 0 (length bs) && slice_index bs 0 == 45

abbrev pub negative_by : Option ℕ → Option Numeral
negative_by None = None
negative_by (Some n) = cond (n == 0) None (Some (record { negative = true; value = n }))

abbrev pub positive_by : Option ℕ → Option Numeral
positive_by None = None
positive_by (Some n) = Some (record { negative = false; value = n })

-- a number, or one other than 0 with a minus in front
abbrev pub numeral_value : List ℕ → Option Numeral
numeral_value bs = cond (minus bs) (negative_by (number_value (drop 1 bs))) (positive_by (number_value bs))

-- ten digits or more, the first not 0
abbrev pub over_nine : List ℕ → Bool
over_nine bs = not (nat_le (length bs) 9 || begins_with_zero bs) && digits bs
