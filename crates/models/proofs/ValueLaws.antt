-- The value of a declared variable, by the kind of its record.
use Rattle.std.proofs.Common.{◌≡◌, ℕ, ◌+◌, true, false, eqb, List, [], ◌∷◌, sym, refl, ap, ◌∙◌, subst, ⊎_elim}
use Rattle.std.specs.List.{AllByRecursion}
use Rattle.std.proofs.lemmas.Bool.{both_ways, cases_Bool, cond-true, cond-false, eqb-true}
use Rattle.base.specs.Words.{empty_word}
use Rattle.formula.specs.declared.tables.Kind.TheVariants as kind
use Rattle.formula.specs.declared.tables.Variable.{Variable}
use Rattle.formula.specs.Groups.{is_universal, is_existential}
use Rattle.spelling.specs.Dqbf.{Declaration, universal, existential, record_from, record_of}
use Rattle.models.specs.Models.{Assignment, Functions, value_of}

module _ (F : Functions) (σ : Assignment) (v : ℕ) where
  universal_from : (n e : ℕ) (ds : List Declaration) → is_universal (record_from v n e ds).kind ≡ true → value_of ds F σ v ≡ σ v
  universal_from n e [] h = absurd (both_ways false refl h)
  universal_from n e (universal u ∷ ds) h =
      ⊎_elim
      (λ b. cond-true (eqb u v) _ _ b)
      (λ b.
      let at : record_from v n e (universal u ∷ ds) ≡ record_from v (n + 1) e ds = cond-false (eqb u v) _ _ b in
      cond-false (eqb u v) _ _ b ∙ universal_from (n + 1) e ds (ap (λ (x : Variable). is_universal x.kind) (sym at) ∙ h))
      (cases_Bool (eqb u v))
  universal_from n e (existential y d ∷ ds) h =
      ⊎_elim
      (λ b.
      let at : record_from v n e (existential y d ∷ ds) ≡ record { kind = kind.Existential; position = e + 1; dependencies = d } = cond-true (eqb y v) _ _ b in
      absurd (both_ways (is_universal (record_from v n e (existential y d ∷ ds)).kind) (ap (λ (x : Variable). is_universal x.kind) at) h))
      (λ b.
      let at : record_from v n e (existential y d ∷ ds) ≡ record_from v n (e + 1) ds = cond-false (eqb y v) _ _ b in
      cond-false (eqb y v) _ _ b ∙ universal_from n (e + 1) ds (ap (λ (x : Variable). is_universal x.kind) (sym at) ∙ h))
      (cases_Bool (eqb y v))

  existential_from : (n e : ℕ) (ds : List Declaration) → is_existential (record_from v n e ds).kind ≡ true → value_of ds F σ v ≡ F v σ
  existential_from n e [] h = absurd (both_ways false refl h)
  existential_from n e (existential y d ∷ ds) h =
      ⊎_elim
      (λ b. cond-true (eqb y v) _ _ b)
      (λ b.
      let at : record_from v n e (existential y d ∷ ds) ≡ record_from v n (e + 1) ds = cond-false (eqb y v) _ _ b in
      cond-false (eqb y v) _ _ b ∙ existential_from n (e + 1) ds (ap (λ (x : Variable). is_existential x.kind) (sym at) ∙ h))
      (cases_Bool (eqb y v))
  existential_from n e (universal u ∷ ds) h =
      ⊎_elim
      (λ b.
      let at : record_from v n e (universal u ∷ ds) ≡ record { kind = kind.Universal; position = n + 1; dependencies = empty_word } = cond-true (eqb u v) _ _ b in
      absurd (both_ways (is_existential (record_from v n e (universal u ∷ ds)).kind) (ap (λ (x : Variable). is_existential x.kind) at) h))
      (λ b.
      let at : record_from v n e (universal u ∷ ds) ≡ record_from v (n + 1) e ds = cond-false (eqb u v) _ _ b in
      cond-false (eqb u v) _ _ b ∙ existential_from (n + 1) e ds (ap (λ (x : Variable). is_existential x.kind) (sym at) ∙ h))
      (cases_Bool (eqb u v))

-- the value of a universal is the assignment's
pub value_universal : (prefix : List Declaration) (F : Functions) (σ : Assignment) (v : ℕ) → is_universal (record_of prefix v).kind ≡ true → value_of prefix F σ v ≡ σ v
value_universal prefix F σ v h = universal_from F σ v 0 0 prefix h

-- the value of an existential is its function's
pub value_existential : (prefix : List Declaration) (F : Functions) (σ : Assignment) (v : ℕ) → is_existential (record_of prefix v).kind ≡ true → value_of prefix F σ v ≡ F v σ
value_existential prefix F σ v h = existential_from F σ v 0 0 prefix h

declared_from : (P : Declaration → Type 0) (v n e : ℕ) (ds : List Declaration) → is_existential (record_from v n e ds).kind ≡ true → AllByRecursion P ds → P (existential v (record_from v n e ds).dependencies)
declared_from P v n e [] h all = absurd (both_ways false refl h)
declared_from P v n e (existential y d ∷ ds) h (p, all) =
    ⊎_elim
    (λ b.
    let at : record_from v n e (existential y d ∷ ds) ≡ record { kind = kind.Existential; position = e + 1; dependencies = d } = cond-true (eqb y v) _ _ b in
    let there : P (existential v d) = subst (λ (x : ℕ). P (existential x d)) (eqb-true y v b) p in
    subst (λ (x : Variable). P (existential v x.dependencies)) (sym at) there)
    (λ b.
    let at : record_from v n e (existential y d ∷ ds) ≡ record_from v n (e + 1) ds = cond-false (eqb y v) _ _ b in
    subst (λ (x : Variable). P (existential v x.dependencies)) (sym at) (declared_from P v n (e + 1) ds (ap (λ (x : Variable). is_existential x.kind) (sym at) ∙ h) all))
    (cases_Bool (eqb y v))
declared_from P v n e (universal u ∷ ds) h (p, all) =
    ⊎_elim
    (λ b.
    let at : record_from v n e (universal u ∷ ds) ≡ record { kind = kind.Universal; position = n + 1; dependencies = empty_word } = cond-true (eqb u v) _ _ b in
    absurd (both_ways (is_existential (record_from v n e (universal u ∷ ds)).kind) (ap (λ (x : Variable). is_existential x.kind) at) h))
    (λ b.
    let at : record_from v n e (universal u ∷ ds) ≡ record_from v (n + 1) e ds = cond-false (eqb u v) _ _ b in
    subst (λ (x : Variable). P (existential v x.dependencies)) (sym at) (declared_from P v (n + 1) e ds (ap (λ (x : Variable). is_existential x.kind) (sym at) ∙ h) all))
    (cases_Bool (eqb u v))

-- what holds of every declaration holds of an existential's, which has its record's dependencies
pub existential_declared : (P : Declaration → Type 0) (prefix : List Declaration) (v : ℕ) → is_existential (record_of prefix v).kind ≡ true → AllByRecursion P prefix → P (existential v (record_of prefix v).dependencies)
existential_declared P prefix v h all = declared_from P v 0 0 prefix h all
