-- Words of values as sets of universal positions, from 1 to 64.
use Rattle.std.specs.Prelude.{ℕ, ◌-◌, ◌/◌, ◌%◌, ◌^◌, Bool, cond, ◌&&◌, ◌==◌, bit_and, bit_or, nat_le, nat_lt}
use Rattle.base.specs.declared.values.ValueWord.{ValueWord}

-- the positions of a word are 1 to 64
abbrev pub position : ℕ → Bool
position k = nat_le 1 k && nat_le k 64

unfoldable pub empty_word : ValueWord
empty_word = record { bits = 0 }

unfoldable pub first_word : ℕ → ValueWord
first_word n = record { bits = cond (nat_le 64 n) (2 ^ 64 - 1) (2 ^ n - 1) }

unfoldable pub single_word : ℕ → ValueWord
single_word k = record { bits = cond (position k) (2 ^ (k - 1)) 0 }

unfoldable pub union_word : ValueWord → ValueWord → ValueWord
union_word a b = record { bits = bit_or a.bits b.bits }

unfoldable pub common_word : ValueWord → ValueWord → ValueWord
common_word a b = record { bits = bit_and a.bits b.bits }

-- whether position k is in the word: its bit is the one worth 2^(k-1)
unfoldable pub has_bit : ValueWord → ℕ → Bool
has_bit a k = position k && a.bits / 2 ^ (k - 1) % 2 == 1

-- whether a is a word of 64 bits and each position of a is in b
unfoldable pub within_word : ValueWord → ValueWord → Bool
within_word a b = nat_lt a.bits (2 ^ 64) && bit_and a.bits (2 ^ 64 - 1 - b.bits) == 0

-- whether both words have the same positions
unfoldable pub equal_words : ValueWord → ValueWord → Bool
equal_words a b = a.bits == b.bits
