-- What a word is, by what reading it answers; and no word of a text is a negative 0.
use Rattle.std.proofs.Common.{◌≡◌, ℕ, zero, suc, ◌+◌, Bool, true, false, cond, eqb, List, [], ◌∷◌, take, drop, Some, None, Ok, Err, Option, Result, refl, ap, ◌∙◌, ap₂, arith}
use Rattle.std.specs.List.{AllByRecursion}
use Rattle.std.proofs.lemmas.Bool.{and_from, and_parts, cond_both, cond-false, cond-true, eq-eqb, eqb-false, eqb-true}
use Rattle.base.specs.Causes.{Refusal}
use Rattle.words.specs.declared.forms.Numeral.{Numeral}
use Rattle.words.specs.Forms.{blank, letters, minus, negative_by, number_value, numeral_value, positive_by}
use Rattle.words.specs.Words.{Spelt, letter, number, other, inked, classed, classed_by, cut, words_from}
use Rattle.words.specs.Due.{and_then, literal_in, name_in, number_in, same}
use Rattle.spelling.specs.FormulaGrammar.{Name, Number, Signed}

-- a word is no negative 0
abbrev pub Proper : Spelt → Type 0
Proper (letter bs p) = Unit {0}
Proper (number bs p n) = n.value ≡ 0 → n.negative ≡ false
Proper (other bs p) = Unit {0}

abbrev Sound : Option Numeral → Type 0
Sound None = Unit {0}
Sound (Some n) = n.value ≡ 0 → n.negative ≡ false

negative_sound : (o : Option ℕ) → Sound (negative_by o)
negative_sound None = tt
negative_sound (Some n) =
    cond_both (eqb n 0) None (Some (record { negative = true; value = n })) Sound (λ e. tt) (λ e z. absurd (eqb-false n 0 e z))

positive_sound : (o : Option ℕ) → Sound (positive_by o)
positive_sound None = tt
positive_sound (Some n) = λ z. refl

numeral_sound : (bs : List ℕ) → Sound (numeral_value bs)
numeral_sound bs =
    cond_both (minus bs) (negative_by (number_value (drop 1 bs))) (positive_by (number_value bs)) Sound
    (λ e. negative_sound (number_value (drop 1 bs)))
    (λ e. positive_sound (number_value bs))

classed_proper : (o : Option Numeral) (bs : List ℕ) (p : ℕ) → Sound o → Proper (classed_by o bs p)
classed_proper (Some n) bs p h = h
classed_proper None bs p h = cond_both (letters bs) (letter bs p) (other bs p) Proper (λ e. tt) (λ e. tt)

cut_proper : (skip : ℕ) (bs : List ℕ) (p : ℕ) → AllByRecursion Proper (cut skip bs p)
cut_proper skip [] p = tt
cut_proper (suc k) (b ∷ bs) p = cut_proper k bs (p + 1)
cut_proper zero (b ∷ bs) p =
    let word = take (inked (b ∷ bs)) (b ∷ bs) in
    cond_both (blank b) (cut zero bs (p + 1)) (classed word p ∷ cut (inked bs) bs (p + 1)) (AllByRecursion Proper)
    (λ e. cut_proper zero bs (p + 1))
    (λ e. (classed_proper (numeral_value word) word p (numeral_sound word), cut_proper (inked bs) bs (p + 1)))

pub words_proper : (text : List ℕ) (p : ℕ) → AllByRecursion Proper (words_from text p)
words_proper text p = cut_proper 0 (drop p text) p

-- a reading that answers
pub ok_same : {X E : Type 0} (x y : X) → ◌≡◌ {A = Result X E} (Ok x) (Ok y) → x ≡ y
ok_same x y e = cc

pub no_ok : {X E : Type 0} (x : X) (y : E) → ◌≡◌ {A = Result X E} (Err y) (Ok x) → ⊥
no_ok x y e = let z : ◌≡◌ {A = ℕ} 0 1 = cc in omega arith

pub then_ok : {X Y : Type 0} (r : Result X Refusal) (f : X → Result Y Refusal) (y : Y) → and_then r f ≡ Ok y → (x : X) × (r ≡ Ok x) × (f x ≡ Ok y)
then_ok (Ok x) f y e = (x, refl, e)
then_ok (Err d) f y e = absurd (no_ok y d e)

pub then_at : {X Y : Type 0} {r : Result X Refusal} {x : X} (f : X → Result Y Refusal) → r ≡ Ok x → and_then r f ≡ f x
then_at f e = ap (λ r. and_then r f) e

pub cond_ok : {X : Type 0} (b : Bool) (d : Refusal) (r : Result X Refusal) (x : X) → cond b (Err d) r ≡ Ok x → (b ≡ false) × (r ≡ Ok x)
cond_ok true d r x e = absurd (no_ok x d e)
cond_ok false d r x e = (refl, e)

-- the word is this number
pub reads_number : (w : Spelt) (n : ℕ) → Number w n → number_in w ≡ Ok n
reads_number (letter bs p) n h = absurd h
reads_number (number bs p m) n h = cond-false m.negative _ _ h.0 ∙ ap Ok h.1
reads_number (other bs p) n h = absurd h

pub is_number : (w : Spelt) (n : ℕ) → number_in w ≡ Ok n → Number w n
is_number (letter bs p) n e = absurd (no_ok n _ e)
is_number (number bs p m) n e = let c = cond_ok m.negative _ (Ok m.value) n e in (c.0, ok_same m.value n c.1)
is_number (other bs p) n e = absurd (no_ok n _ e)

-- the word is this number, with its sign
pub reads_literal : (w : Spelt) (negative : Bool) (n : ℕ) → Signed w negative n → literal_in w ≡ Ok (record { negative = negative; value = n })
reads_literal (letter bs p) negative n h = absurd h
reads_literal (number bs p m) negative n h = ap₂ (λ s k. Ok (record { negative = s; value = k })) h.0 h.1
reads_literal (other bs p) negative n h = absurd h

pub is_literal : (w : Spelt) (n : Numeral) → literal_in w ≡ Ok n → Signed w n.negative n.value
is_literal (letter bs p) n e = absurd (no_ok n _ e)
is_literal (number bs p m) n e = let s = ok_same m n e in (ap (λ k. k.negative) s, ap (λ k. k.value) s)
is_literal (other bs p) n e = absurd (no_ok n _ e)

-- the word is this name
pub same_itself : (xs : List ℕ) → same xs xs ≡ true
same_itself [] = refl
same_itself (x ∷ xs) = and_from (eqb x x) (same xs xs) (eq-eqb x x refl) (same_itself xs)

pub equal_from_same : (xs ys : List ℕ) → same xs ys ≡ true → xs ≡ ys
equal_from_same [] [] e = refl
equal_from_same [] (y ∷ ys) e = let z : ◌≡◌ {A = ℕ} 0 1 = cc in absurd (omega arith)
equal_from_same (x ∷ xs) [] e = let z : ◌≡◌ {A = ℕ} 0 1 = cc in absurd (omega arith)
equal_from_same (x ∷ xs) (y ∷ ys) e =
    let p = and_parts (eqb x y) (same xs ys) e in ap₂ (λ a as'. a ∷ as') (eqb-true x y p.0) (equal_from_same xs ys p.1)

pub reads_name : (name : List ℕ) (w : Spelt) → Name w name → name_in name w ≡ Ok tt
reads_name name (letter bs p) h = cond-true (same bs name) _ _ (ap (λ xs. same xs name) h ∙ same_itself name)
reads_name name (number bs p n) h = absurd h
reads_name name (other bs p) h = absurd h

cond_name : {X : Type 0} (b : Bool) (x : X) (d : Refusal) → ◌≡◌ {A = Result X Refusal} (cond b (Ok x) (Err d)) (Ok x) → b ≡ true
cond_name true x d e = refl
cond_name false x d e = absurd (no_ok x d e)

pub is_name : (name : List ℕ) (w : Spelt) → name_in name w ≡ Ok tt → Name w name
is_name name (letter bs p) e = equal_from_same bs name (cond_name (same bs name) tt _ e)
is_name name (number bs p n) e = absurd (no_ok tt _ e)
is_name name (other bs p) e = absurd (no_ok tt _ e)
