-- A text for any list of tokens: its words are these tokens.
use Rattle.std.proofs.Common.{◌≡◌, ℕ, suc, ◌+◌, ◌^◌, ◌<◌, ◌≤◌, Bool, true, false, cond, not, ◌&&◌, ◌||◌, eqb, ltb, List, [], ◌∷◌, ◌++◌, map, length, take, drop, Some, None, sym, refl, ap, ◌∙◌, ap₂, one-add, arith}
use Rattle.std.specs.List.{AllByRecursion}
use Rattle.std.proofs.lemmas.List.{take_at, drop_at, append_assoc, length-append}
use Rattle.std.proofs.ByRecursion.{All-append, All-weaker, All-map}
use Rattle.std.proofs.lemmas.Bool.{cond-true, cond-false, and_left, and_right}
use Rattle.std.proofs.lemmas.Bool.Decides.{nat_tests}
use Rattle.words.specs.Forms.{blank, letter_byte, digit_byte, letters, digits, decimal, number_form, number_value, minus, negative_by, positive_by, numeral_value}
use Rattle.words.specs.Words.{Spelt, letter, number, other, inked, classed, classed_by, cut, words_from}
use Rattle.words.proofs.WordLaws.{cut_word}
use Rattle.spelling.proofs.Decimals.{decimal_bytes, decimal_bytes_some, decimal_bytes_low, decimal_bytes_inked, numeral_positive, numeral_negative}

-- each token's bytes, and one space behind
abbrev pub text_of : List (List ℕ) → List ℕ
text_of [] = []
text_of (t ∷ ts) = t ++ (32 ∷ text_of ts)

-- the words that tokens make from a place on, with one space behind each
abbrev pub placed : ℕ → List (List ℕ) → List Spelt
placed p [] = []
placed p (t ∷ ts) = classed t p ∷ placed (p + length t + 1) ts

-- the bytes of a word: some, and no blanks
abbrev pub Inked : List ℕ → Type 0
Inked t = (0 < length t) × AllByRecursion (λ b. blank b ≡ false) t

inked_token : (t rest : List ℕ) → AllByRecursion (λ b. blank b ≡ false) t → inked (t ++ (32 ∷ rest)) ≡ length t
inked_token [] rest h = refl
inked_token (b ∷ t) rest h = ap (λ x. cond (not x) (1 + inked (t ++ (32 ∷ rest))) 0) h.0 ∙ one-add (inked (t ++ (32 ∷ rest))) ∙ ap suc (inked_token t rest h.1)

-- a token and a space make the first word
pub cut_token : (t rest : List ℕ) (p : ℕ) → Inked t → cut 0 (t ++ (32 ∷ rest)) p ≡ classed t p ∷ cut 0 rest (p + length t + 1)
cut_token t rest p h =
    let bs : List ℕ = t ++ (32 ∷ rest) in
    let long : inked bs ≡ length t = inked_token t rest h.1 in
    cut_word bs p (omega arith)
    ∙ ap (λ k. classed (take k bs) p ∷ cut 0 (drop k bs) (p + k)) long
    ∙ ap₂ (λ w l. classed w p ∷ cut 0 l (p + length t)) (take_at t (32 ∷ rest) (length t) refl) (drop_at t (32 ∷ rest) (length t) refl)

pub cut_text_of : (ts : List (List ℕ)) (p : ℕ) → AllByRecursion Inked ts → cut 0 (text_of ts) p ≡ placed p ts
cut_text_of [] p h = refl
cut_text_of (t ∷ ts) p h = cut_token t (text_of ts) p h.0 ∙ ap (λ ws. classed t p ∷ ws) (cut_text_of ts (p + length t + 1) h.1)

pub words_text_of : (ts : List (List ℕ)) → AllByRecursion Inked ts → words_from (text_of ts) 0 ≡ placed 0 ts
words_text_of ts h = cut_text_of ts 0 h

pub bytes_text_of : (ts : List (List ℕ)) → AllByRecursion (λ t. AllByRecursion (λ b. b < 256) t) ts → AllByRecursion (λ b. b < 256) (text_of ts)
bytes_text_of [] h = tt
bytes_text_of (t ∷ ts) h = All-append (λ b. b < 256) t (32 ∷ text_of ts) h.0 (omega arith, bytes_text_of ts h.1)

-- a text in two parts
pub text_of_append : (ts us : List (List ℕ)) → text_of (ts ++ us) ≡ text_of ts ++ text_of us
text_of_append [] us = refl
text_of_append (t ∷ ts) us = ap (λ l. t ++ (32 ∷ l)) (text_of_append ts us) ∙ sym (append_assoc t (32 ∷ text_of ts) (text_of us))

pub length_text_of : (t : List ℕ) (ts : List (List ℕ)) → length (text_of (t ∷ ts)) ≡ length t + 1 + length (text_of ts)
length_text_of t ts = length-append t (32 ∷ text_of ts) ∙ omega arith

-- A word to write: letters, or a number with its sign (true: a minus).
pub data Token : Type 0 where
  name : List ℕ → Token
  num : Bool → ℕ → Token

abbrev pub signed_bytes : Bool → ℕ → List ℕ
signed_bytes true n = 45 ∷ decimal_bytes n
signed_bytes false n = decimal_bytes n

abbrev pub token_bytes : Token → List ℕ
token_bytes (name bs) = bs
token_bytes (num s n) = signed_bytes s n

-- some letters from a to z, or a number of at most nine digits that is not 0 behind a minus
abbrev pub Good : Token → Type 0
Good (name bs) = (0 < length bs) × AllByRecursion (λ b. letter_byte b ≡ true) bs
Good (num s n) = (n < 10 ^ 9) × (s ≡ true → 0 < n)

-- the word that a token makes at a place
abbrev pub spelt_at : ℕ → Token → Spelt
spelt_at p (name bs) = letter bs p
spelt_at p (num s n) = number (signed_bytes s n) p (record { negative = s; value = n })

-- the words that tokens make from a place on, with one space behind each
abbrev pub spelt : ℕ → List Token → List Spelt
spelt p [] = []
spelt p (t ∷ ts) = spelt_at p t ∷ spelt (p + length (token_bytes t) + 1) ts

letter_low : (b : ℕ) → letter_byte b ≡ true → (97 ≤ b) × (b ≤ 122)
letter_low b e = (grind (arith, nat_tests), grind (arith, nat_tests))

letter_no_blank : (b : ℕ) → letter_byte b ≡ true → blank b ≡ false
letter_no_blank b e = let h = letter_low b e in grind (arith, nat_tests)

letter_no_digit : (b : ℕ) → letter_byte b ≡ true → digit_byte b ≡ false
letter_no_digit b e = let h = letter_low b e in grind (arith, nat_tests)

letter_no_minus : (b : ℕ) → letter_byte b ≡ true → eqb b 45 ≡ false
letter_no_minus b e = let h = letter_low b e in grind (arith, nat_tests)

all_letters : (bs : List ℕ) → AllByRecursion (λ b. letter_byte b ≡ true) bs → letters bs ≡ true
all_letters [] h = refl
all_letters (b ∷ bs) h = ap₂ ◌&&◌ h.0 (all_letters bs h.1)

-- letters are no numeral
pub numeral_letters : (bs : List ℕ) → 0 < length bs → AllByRecursion (λ b. letter_byte b ≡ true) bs → numeral_value bs ≡ None
numeral_letters [] z h = absurd (omega arith)
numeral_letters (b ∷ bs) z h =
    let no_digits : digits (b ∷ bs) ≡ false = and_left (digit_byte b) (digits bs) (letter_no_digit b h.0) in
    let l : ℕ = length (b ∷ bs) in
    cond-false (minus (b ∷ bs)) (negative_by (number_value bs)) (positive_by (number_value (b ∷ bs))) (and_right (ltb 0 l) (eqb b 45) (letter_no_minus b h.0))
    ∙ ap positive_by (cond-false (number_form (b ∷ bs)) (Some (decimal 0 (b ∷ bs))) None (and_right (not (eqb l 0 || ltb 9 l || (ltb 1 l && eqb b 48))) (digits (b ∷ bs)) no_digits))

-- a good token is some bytes, and no blanks
pub inked_signed : (s : Bool) (n : ℕ) → n < 10 ^ 9 → Inked (signed_bytes s n)
inked_signed false n h = (decimal_bytes_some n h, decimal_bytes_inked n h)
inked_signed true n h = (omega arith, (refl, decimal_bytes_inked n h))

pub inked_token_bytes : (t : Token) → Good t → Inked (token_bytes t)
inked_token_bytes (name bs) h = (h.0, All-weaker (λ b. letter_byte b ≡ true) (λ b. blank b ≡ false) letter_no_blank bs h.1)
inked_token_bytes (num s n) h = inked_signed s n h.0

low_signed : (s : Bool) (n : ℕ) → n < 10 ^ 9 → AllByRecursion (λ b. b < 256) (signed_bytes s n)
low_signed false n h = decimal_bytes_low n h
low_signed true n h = (omega arith, decimal_bytes_low n h)

pub low_token_bytes : (t : Token) → Good t → AllByRecursion (λ b. b < 256) (token_bytes t)
low_token_bytes (name bs) h = All-weaker (λ b. letter_byte b ≡ true) (λ b. b < 256) (λ b e. omega (arith, letter_low b e)) bs h.1
low_token_bytes (num s n) h = low_signed s n h.0

pub numeral_signed : (s : Bool) (n : ℕ) → n < 10 ^ 9 → (s ≡ true → 0 < n) → numeral_value (signed_bytes s n) ≡ Some (record { negative = s; value = n })
numeral_signed false n h k = numeral_positive n h
numeral_signed true n h k = numeral_negative n h (k refl)

pub classed_token : (p : ℕ) (t : Token) → Good t → classed (token_bytes t) p ≡ spelt_at p t
classed_token p (name bs) h = ap (λ o. classed_by o bs p) (numeral_letters bs h.0 h.1) ∙ cond-true (letters bs) (letter bs p) (other bs p) (all_letters bs h.1)
classed_token p (num s n) h = ap (λ o. classed_by o (signed_bytes s n) p) (numeral_signed s n h.0 h.1)

pub placed_spelt : (p : ℕ) (ts : List Token) → AllByRecursion Good ts → placed p (map token_bytes ts) ≡ spelt p ts
placed_spelt p [] h = refl
placed_spelt p (t ∷ ts) h = ap₂ ◌∷◌ (classed_token p t h.0) (placed_spelt (p + length (token_bytes t) + 1) ts h.1)

pub words_of_tokens : (ts : List Token) → AllByRecursion Good ts → words_from (text_of (map token_bytes ts)) 0 ≡ spelt 0 ts
words_of_tokens ts h = words_text_of (map token_bytes ts) (All-map Inked token_bytes ts (All-weaker Good (λ t. Inked (token_bytes t)) inked_token_bytes ts h)) ∙ placed_spelt 0 ts h

pub bytes_of_tokens : (ts : List Token) → AllByRecursion Good ts → AllByRecursion (λ b. b < 256) (text_of (map token_bytes ts))
bytes_of_tokens ts h = bytes_text_of (map token_bytes ts) (All-map (λ t. AllByRecursion (λ b. b < 256) t) token_bytes ts (All-weaker Good (λ t. AllByRecursion (λ b. b < 256) (token_bytes t)) low_token_bytes ts h))

-- the words of tokens in two parts
pub spelt_append : (p : ℕ) (ts us : List Token) → spelt p (ts ++ us) ≡ spelt p ts ++ spelt (p + length (text_of (map token_bytes ts))) us
spelt_append p [] us = ap (λ q. spelt q us) (omega arith)
spelt_append p (t ∷ ts) us =
    ap (λ ws. spelt_at p t ∷ ws)
    (spelt_append (p + length (token_bytes t) + 1) ts us
    ∙ ap (λ q. spelt (p + length (token_bytes t) + 1) ts ++ spelt q us) (omega (arith, length_text_of (token_bytes t) (map token_bytes ts))))

-- some text has the words of these tokens
pub some_text : (ts : List Token) → AllByRecursion Good ts → (text : List ℕ) × (AllByRecursion (λ b. b < 256) text) × (words_from text 0 ≡ spelt 0 ts)
some_text ts h = (text_of (map token_bytes ts), bytes_of_tokens ts h, words_of_tokens ts h)
