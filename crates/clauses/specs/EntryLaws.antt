-- Laws of entries: the test whether two are the same, and the complement.
use Rattle.std.specs.Prelude.{◌≡◌, ℕ, true, ◌==◌, ◌≢◌, bit_xor, refl}
use Rattle.std.proofs.Common.{ap, subst, ◌∙◌, arith}
use Rattle.std.specs.Int.Bits.{xor_assoc, xor_zero_r, xor_add_and}
use Rattle.std.proofs.lemmas.Bool.{and_from, and_parts, eq-eqb, eqb-true}
use Rattle.base.specs.Words.{equal_words}
use Rattle.base.proofs.WordLaws.{equal_itself, equal_from}
use Rattle.clauses.specs.declared.entry.Entry.{Entry}
use Rattle.clauses.specs.Worlds.{same_entry, complement_entry}

pub same_itself : (a : Entry) → same_entry a a ≡ true
same_itself a = and_from _ _ (eq-eqb a.code a.code refl) (equal_itself a.values)

pub same_from : (a b : Entry) → same_entry a b ≡ true → a ≡ b
same_from a b e =
    let both = and_parts (a.code == b.code) (equal_words a.values b.values) e in
    ap (λ (n : ℕ). record { code = n; values = a.values }) (eqb-true a.code b.code both.0)
    ∙ ap (λ v. record { code = b.code; values = v }) (equal_from a.values b.values both.1)

pub same_back : (a b : Entry) → same_entry a b ≡ true → same_entry b a ≡ true
same_back a b e = subst (λ x. same_entry x a ≡ true) (same_from a b e) (same_itself a)

pub same_through : (a b c : Entry) → same_entry a b ≡ true → same_entry b c ≡ true → same_entry a c ≡ true
same_through a b c e f = subst (λ x. same_entry a x ≡ true) (same_from b c f) e

pub twice : (e : Entry) → complement_entry (complement_entry e) ≡ e
twice e = ap (λ (n : ℕ). record { code = n; values = e.values }) (xor_assoc e.code 1 1 ∙ xor_zero_r e.code)

pub apart : (e : Entry) → complement_entry e ≢ e
apart e h = let same : bit_xor e.code 1 ≡ e.code = ap (λ (x : Entry). x.code) h in omega (arith, xor_add_and e.code 1)
