-- The words of a text from a place on.
use Rattle.std.specs.Prelude.{◌≡◌, ℕ, zero, suc, ◌+◌, ◌<◌, ◌≤◌, max, cond, not, List, [], ◌∷◌, length, take, drop, Some, None, Option}
use Rattle.std.specs.List.{prefix_len}
use Rattle.words.specs.declared.forms.Numeral.{Numeral}
use Rattle.words.specs.Forms.{blank, letters, numeral_value}

-- A word as the list of its bytes, with the place of the first and, of a number, its value.
pub data Spelt : Type 0 where
  letter : List ℕ → ℕ → Spelt
  number : List ℕ → ℕ → Numeral → Spelt
  other : List ℕ → ℕ → Spelt

-- how many bytes that are no blanks stand in front
abbrev pub inked : List ℕ → ℕ
inked bs = prefix_len (λ b. not (blank b)) bs

abbrev pub classed_by : Option Numeral → List ℕ → ℕ → Spelt
classed_by (Some n) bs p = number bs p n
classed_by None bs p = cond (letters bs) (letter bs p) (other bs p)

-- the word that these bytes make at a place
abbrev pub classed : List ℕ → ℕ → Spelt
classed bs p = classed_by (numeral_value bs) bs p

-- the words of bytes that stand at place p, past the first `skip` bytes
abbrev pub cut : ℕ → List ℕ → ℕ → List Spelt
cut skip [] p = []
cut (suc k) (b ∷ bs) p = cut k bs (p + 1)
cut zero (b ∷ bs) p = cond (blank b) (cut zero bs (p + 1)) (classed (take (inked (b ∷ bs)) (b ∷ bs)) p ∷ cut (inked bs) bs (p + 1))

abbrev pub words_from : List ℕ → ℕ → List Spelt
words_from text p = cut 0 (drop p text) p

abbrev pub listed : Option Spelt → List Spelt → List Spelt
listed None ws = []
listed (Some w) ws = w ∷ ws

abbrev pub start_of : Spelt → ℕ
start_of (letter bs p) = p
start_of (number bs p n) = p
start_of (other bs p) = p

abbrev pub bytes_of : Spelt → List ℕ
bytes_of (letter bs p) = bs
bytes_of (number bs p n) = bs
bytes_of (other bs p) = bs

-- the place behind a word
abbrev pub end_of : Spelt → ℕ
end_of w = start_of w + length (bytes_of w)

-- a word that is taken moves the place on, to the word's end; where there is none, to the text's end, unless it is there or beyond
abbrev pub Onward : Option Spelt → ℕ → ℕ → ℕ → Type 0
Onward None p q size = q ≡ max p size
Onward (Some w) p q size = (p < q) × (q ≤ size) × (q ≡ end_of w)
