-- What reading one word says of the words that were left.
use Rattle.std.proofs.Common.{◌≡◌, ℕ, List, [], ◌∷◌, Ok, Err, Result, sym, refl, ◌∙◌}
use Rattle.base.specs.Causes.{Refusal}
use Rattle.words.specs.declared.forms.Numeral.{Numeral}
use Rattle.words.specs.Words.{Spelt, start_of, end_of}
use Rattle.words.specs.Due.{and_then, number_in, literal_in, number_from, literal_from, text_ends}

and_then_assoc : {X Y Z : Type 0} (r : Result X Refusal) (f : X → Result Y Refusal) (g : Y → Result Z Refusal) → and_then (and_then r f) g ≡ and_then r (λ x. and_then (f x) g)
and_then_assoc (Ok x) f g = refl
and_then_assoc (Err e) f g = refl

-- a reading that begins with a number, by the number's reading
pub by_number : {Y : Type 0} (F : List Spelt → Result Y Refusal) (G : ℕ → ℕ → List Spelt → ℕ → Result Y Refusal) (size : ℕ) → F [] ≡ Err (text_ends size) → ((w : Spelt) (ws : List Spelt) → F (w ∷ ws) ≡ and_then (number_in w) (λ n. G n (start_of w) ws (end_of w))) → (ws : List Spelt) → F ws ≡ and_then (number_from ws size) (λ g. G g.0.0 g.0.1 g.1 g.2)
by_number F G size none more [] = none
by_number F G size none more (w ∷ ws) = more w ws ∙ sym (and_then_assoc (number_in w) _ _)

-- a reading that begins with a literal, by the literal's reading
pub by_literal : {Y : Type 0} (F : List Spelt → Result Y Refusal) (G : Numeral → ℕ → List Spelt → ℕ → Result Y Refusal) (size : ℕ) → F [] ≡ Err (text_ends size) → ((w : Spelt) (ws : List Spelt) → F (w ∷ ws) ≡ and_then (literal_in w) (λ n. G n (start_of w) ws (end_of w))) → (ws : List Spelt) → F ws ≡ and_then (literal_from ws size) (λ g. G g.0.0 g.0.1 g.1 g.2)
by_literal F G size none more [] = none
by_literal F G size none more (w ∷ ws) = more w ws ∙ sym (and_then_assoc (literal_in w) _ _)
