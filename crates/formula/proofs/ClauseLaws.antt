-- What reading one literal says of the clause that is read, the marks of its variables, and a formula that is refused.
use Rattle.std.proofs.Common.{◌≡◌, ℕ, ◌≤◌, Bool, cond, ◌&&◌, ◌||◌, eqb, leb, List, [], ◌∷◌, ◌++◌, Ok, Err, Result, sym, refl, ap, ap₂, ◌∙◌}
use mathlib.Core.Bool.{or-false, or_assoc}
use Rattle.std.proofs.lemmas.Bool.{le-leb}
use Rattle.base.specs.Causes.{Refusal}
use Rattle.words.specs.Words.{Spelt}
use Rattle.words.specs.Due.{and_then, literal_from}
use Rattle.words.proofs.DueLaws.{by_literal}
use Rattle.formula.specs.declared.tables.Literal.{Literal}
use Rattle.formula.specs.declared.tables.Variable.{Variable}
use Rattle.formula.specs.Clauses.{names, add_literal, clause_from}
use Rattle.formula.specs.Reading.{Formula, head_read}

-- a clause by its first literal
pub clause_unfold : (known : ℕ) (vs : List Variable) (done : List Literal) (room size : ℕ) (ws : List Spelt) → clause_from known vs done ws room size ≡ and_then (literal_from ws size) (λ g. cond (eqb g.0.0.value 0) (Ok (done, g.1, g.2)) (and_then (add_literal known vs done room g.0.0 g.0.1) (λ l. clause_from known vs (done ++ l ∷ []) g.1 room size)))
clause_unfold known vs done room size ws =
    by_literal (λ us. clause_from known vs done us room size)
    (λ n p us q. cond (eqb n.value 0) (Ok (done, us, q)) (and_then (add_literal known vs done room n p) (λ l. clause_from known vs (done ++ l ∷ []) us room size)))
    size refl (λ w us. refl) ws

-- the variables of a clause with one more literal
pub names_push : (v : ℕ) (ls : List Literal) (l : Literal) → names v (ls ++ l ∷ []) ≡ (names v ls || eqb l.variable v)
names_push v [] l = or-false (eqb l.variable v)
names_push v (k ∷ ls) l = ap (λ b. eqb k.variable v || b) (names_push v ls l) ∙ sym (or_assoc (eqb k.variable v) (names v ls) (eqb l.variable v))

-- a literal is read, and its variable marked
pub marks_push : (done : List Literal) (l : Literal) (was is : ℕ → Bool) → l.variable ≤ 65535 → ((v : ℕ) → was v ≡ names v done) → ((v : ℕ) → is v ≡ (was v || leb l.variable 65535 && eqb l.variable v)) → (v : ℕ) → is v ≡ names v (done ++ l ∷ [])
marks_push done l was is few before more v =
    more v
    ∙ ap₂ (λ a b. a || b && eqb l.variable v) (before v) (le-leb l.variable 65535 few)
    ∙ sym (names_push v done l)

-- a formula is refused where its head is
pub refused_is : (f : Result Formula Refusal) (e : Refusal) → Err e ≡ head_read f → f ≡ Err e
refused_is (Ok f) e h = cc
refused_is (Err d) e h = cc
