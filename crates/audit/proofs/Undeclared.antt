-- The record of a variable that is not declared, as the code's == compares it.
use Rattle.std.proofs.Common.{◌≡◌, ℕ, ◌-◌, ◌^◌, ◌<◌, ◌≤◌, Bool, ◌&&◌, eqb, List, [], ◌∷◌, sym, refl, ap, ◌∙◌, ap₂, ⊎_elim, bit_and, arith}
use Rattle.std.specs.List.{list_all}
use Rattle.std.proofs.Math.Bool.{and_assoc}
use Rattle.std.proofs.Math.Nat.{mod-eq_of_lt}
use Rattle.std.proofs.lemmas.Nat.{and_mask}
use Rattle.std.proofs.lemmas.Bool.{cases_lt, lt-ltb, le-ltb, ne_eqb}
use Rattle.base.specs.declared.values.ValueWord.{ValueWord}
use Rattle.base.specs.Words.{empty_word, within_word}
use Rattle.formula.specs.declared.tables.Kind.{Kind}
use Rattle.formula.specs.declared.tables.Kind.TheVariants as kind
use Rattle.formula.specs.declared.tables.Variable.{Variable}
use Rattle.formula.specs.contracts.tables.Kind as code
use Rattle.formula.specs.Groups.{is_undeclared}
use Rattle.audit.specs.FormulaAudit.{undeclared}
use denote.Enum.Bare.{sameb}

-- only the empty word is within the empty one
pub within_empty : (a : ValueWord) → within_word a empty_word ≡ eqb a.bits 0
unfolding within_word empty_word
within_empty a =
    ⊎_elim
    (λ (h : a.bits < 2 ^ 64).
    ap₂ (λ (b : Bool) (n : ℕ). b && eqb n 0) (lt-ltb a.bits (2 ^ 64) h) (and_mask a.bits 64 ∙ mod-eq_of_lt h))
    (λ (h : 2 ^ 64 ≤ a.bits).
    ap (λ b. b && eqb (bit_and a.bits (2 ^ 64 - 1)) 0) (le-ltb a.bits (2 ^ 64) h) ∙ sym (ne_eqb a.bits 0 (λ e. omega arith)))
    (cases_lt a.bits (2 ^ 64))

kind_same : (k : Kind) → sameb code.the_type k kind.Undeclared ≡ is_undeclared k
kind_same kind.Undeclared = refl
kind_same kind.Universal = refl
kind_same kind.Existential = refl

-- what a derived == says of two records
abbrev pub record_same : Variable → Variable → Bool
record_same x y = sameb code.the_type x.kind y.kind && (eqb x.position y.position && eqb x.dependencies.bits y.dependencies.bits)

pub undeclared_same : (x d : Variable) → (d.kind ≡ kind.Undeclared) × (d.position ≡ 0 × d.dependencies.bits ≡ 0) → record_same x d ≡ undeclared x
undeclared_same x d (k, (p, b)) =
    ap (λ y. sameb code.the_type x.kind y && (eqb x.position d.position && eqb x.dependencies.bits d.dependencies.bits)) k
    ∙ ap₂ (λ (m n : ℕ). sameb code.the_type x.kind kind.Undeclared && (eqb x.position m && eqb x.dependencies.bits n)) p b
    ∙ ap₂ (λ (u v : Bool). u && (eqb x.position 0 && v)) (kind_same x.kind) (sym (within_empty x.dependencies))
    ∙ sym (and_assoc (is_undeclared x.kind) (eqb x.position 0) (within_word x.dependencies empty_word))

-- two tests that tell the same
pub all_same : {X : Type 0} (p q : X → Bool) → ((x : X) → p x ≡ q x) → (xs : List X) → list_all p xs ≡ list_all q xs
all_same p q same [] = refl
all_same p q same (x ∷ xs) = ap₂ ◌&&◌ (same x) (all_same p q same xs)
