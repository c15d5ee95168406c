-- The words that a reader asks for, by the list of words that are left: what is read, or the refusal.
use Rattle.std.specs.Prelude.{ℕ, ◌<◌, ◌≤◌, Bool, cond, List, [], ◌∷◌, drop, Ok, Err, Result, nat_lt}
use Rattle.std.specs.Str.{bytes_eq}
use Rattle.base.specs.declared.faults.Fault.{Fault}
use Rattle.base.specs.Causes.{Refusal, told, refused}
use Rattle.words.specs.declared.forms.Numeral.{Numeral}
use Rattle.words.specs.Forms.{minus, over_nine}
use Rattle.words.specs.Words.{Spelt, letter, number, other, start_of, end_of}

-- what was read, the words behind it and the place behind it; or a refusal
abbrev pub Got : Type 0 → Type 0
Got X = Result (X × List Spelt × ℕ) Refusal

abbrev pub got : {X : Type 0} → Result X Fault → List Spelt → ℕ → Got X
got (Ok x) ws p = Ok (x, ws, p)
got (Err e) ws p = Err (told e)

-- the reading goes on with what was read; a refusal goes through unchanged
abbrev pub and_then : {X Y : Type 0} → Result X Refusal → (X → Result Y Refusal) → Result Y Refusal
and_then (Ok x) f = f x
and_then (Err e) f = Err e

-- a word was read: the place moved on, within the text
abbrev pub Further : ℕ → ℕ → ℕ → Type 0
Further p q size = (p < q) × (q ≤ size)

abbrev pub word_form : ℕ → Refusal
word_form p = refused 2 p 1

abbrev pub text_ends : ℕ → Refusal
text_ends size = refused 4 size 1

-- the answer to a text of this many bytes: with more than 16777216 it is refused, whatever it holds
abbrev pub unless_long : {X : Type 0} → ℕ → Result X Refusal → Result X Refusal
unless_long size answer = cond (nat_lt 16777216 size) (Err (refused 1 0 1)) answer

abbrev pub no_number : List ℕ → ℕ → Refusal
no_number bs p = refused (cond (over_nine bs) 3 2) p 1

abbrev pub no_literal : List ℕ → ℕ → Refusal
no_literal bs p = no_number (cond (minus bs) (drop 1 bs) bs) p

-- a word where a number is due
abbrev pub number_in : Spelt → Result ℕ Refusal
number_in (letter bs p) = Err (word_form p)
number_in (number bs p n) = cond n.negative (Err (word_form p)) (Ok n.value)
number_in (other bs p) = Err (no_number bs p)

-- a word where a literal, or the 0 behind the last one, is due
abbrev pub literal_in : Spelt → Result Numeral Refusal
literal_in (letter bs p) = Err (word_form p)
literal_in (number bs p n) = Ok n
literal_in (other bs p) = Err (no_literal bs p)

abbrev pub same : List ℕ → List ℕ → Bool
same = bytes_eq

-- a word where this name is due
abbrev pub name_in : List ℕ → Spelt → Result (Unit {0}) Refusal
name_in name (letter bs p) = cond (same bs name) (Ok tt) (Err (word_form p))
name_in name (number bs p n) = Err (word_form p)
name_in name (other bs p) = Err (word_form p)

-- the number that is due, with the place of its word
abbrev pub number_from : List Spelt → ℕ → Got (ℕ × ℕ)
number_from [] size = Err (text_ends size)
number_from (w ∷ ws) size = and_then (number_in w) (λ n. Ok ((n, start_of w), ws, end_of w))

abbrev pub literal_from : List Spelt → ℕ → Got (Numeral × ℕ)
literal_from [] size = Err (text_ends size)
literal_from (w ∷ ws) size = and_then (literal_in w) (λ n. Ok ((n, start_of w), ws, end_of w))

abbrev pub name_from : List ℕ → List Spelt → ℕ → Got (Unit {0})
name_from name [] size = Err (text_ends size)
name_from name (w ∷ ws) size = and_then (name_in name w) (λ n. Ok (tt, ws, end_of w))
