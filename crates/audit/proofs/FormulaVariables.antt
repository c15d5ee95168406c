-- What the audit's tests say of the records, and back: the variables of each kind, in the order of their positions.
use Rattle.std.proofs.Common.{◌≡◌, ℕ, ◌+◌, ◌-◌, ◌<◌, ◌≤◌, Bool, true, false, not, ◌&&◌, eqb, leb, List, length, get_or, take, drop, set, replicate, Some, None, Decides, Option, sym, refl, ap, ◌∙◌, subst, ⊎_elim, arith}
use Rattle.std.specs.Option.{option_map_or}
use Rattle.std.specs.List.{AllByRecursion, list_all}
use Rattle.std.proofs.ByRecursion.{All-get_or, All-from_get_or, Decides-by_and}
use Rattle.std.proofs.lemmas.List.{get_or-take, get_or-drop, length-take-le, length-drop}
use Rattle.std.proofs.lemmas.Bool.{and_parts, and_from, cond-true, eq-eqb, eqb-false, false≢true, le-leb, ne_eqb, not-true, not_from_false}
use Rattle.base.specs.Words.{empty_word, first_word, within_word}
use Rattle.formula.specs.declared.tables.Head.{Head}
use Rattle.formula.specs.declared.tables.Kind.{Kind}
use Rattle.formula.specs.declared.tables.Kind.TheVariants as kind
use Rattle.formula.specs.declared.tables.Variable.{Variable}
use Rattle.formula.specs.Groups.{no_variable, variable_at, is_universal, is_existential}
use Rattle.spelling.proofs.PrefixLaws.{Stands}
use Rattle.audit.specs.declared.formulas.Owners.{Owners}
use Rattle.audit.specs.FormulaAudit.{owners, free, owns_by, records_own, all_owned, undeclared_all, variables_lawful}
use Rattle.audit.proofs.FormulaOwners.{Owner, Table, PlainBy, Plain, Owned, owned_start, Says, owned_all, own_all}

-- a test that each entry passes
pub each_passes : {X : Type 0} (test : X → Bool) (xs : List X) → Decides (list_all test xs) (AllByRecursion (λ x. test x ≡ true) xs)
each_passes test xs = Decides-by_and test (λ x. test x ≡ true) (list_all test) (λ x. (λ e. e, λ e. e)) refl (λ _ _. refl) xs

-- The variables up to `known` of a kind, in the order of their positions.
pub record Listed (of : Kind → Bool) (r : ℕ → Variable) (known : ℕ) (us : List ℕ) : Type 0 where
  pub each_is : (k : ℕ) → k < length us → Owner of r (known + 1) (k + 1) (get_or us k 0)
  pub all_in : (w : ℕ) → 1 ≤ w → w ≤ known → of (r w).kind ≡ true → Stands us w (r w).position

-- the owners of positions 1 to n
abbrev pub positions : ℕ → List ℕ → List ℕ
positions n os = take n (drop 1 os)

module _ (n : ℕ) (os : List ℕ) (long : n < length os) where
  pub positions_count : length (positions n os) ≡ n
  positions_count = length-take-le n (drop 1 os) (simp length-drop (omega arith))

  positions_at : (k : ℕ) → k < n → get_or (positions n os) k 0 ≡ get_or os (k + 1) 0
  positions_at k h =
      let shift : 1 + k ≡ k + 1 = omega arith in
      get_or-take n (drop 1 os) k 0 h ∙ get_or-drop 1 os k 0 ∙ ap (λ i. get_or os i 0) shift

  module _ (of : Kind → Bool) (r : ℕ → Variable) (known : ℕ) (t : Table of r n (known + 1) os) where
    pub listed : all_owned (positions n os) ≡ true → Listed of r known (positions n os)
    listed e =
        let all = (each_passes (λ o. not (eqb o 0)) (positions n os)).0 e in
        record {
          each_is = λ k h.
              let inside : k < n = omega (arith, positions_count) in
              let at = positions_at k inside in
              let some : get_or (positions n os) k 0 ≡ 0 → ⊥ = eqb-false (get_or (positions n os) k 0) 0 (not-true (eqb (get_or (positions n os) k 0) 0) (All-get_or (λ o. not (eqb o 0) ≡ true) (positions n os) k 0 h all)) in
              subst (Owner of r (known + 1) (k + 1)) (sym at)
              (⊎_elim (λ z. absurd (some (at ∙ z))) (λ o. o) (t.from (k + 1)));
          all_in = λ w low high is.
              let (least, most, there) = t.to w low (omega arith) is in
              let p = (r w).position in
              let same : p - 1 + 1 ≡ p = omega arith in
              (least, omega (arith, positions_count), positions_at (p - 1) (omega arith) ∙ ap (λ i. get_or os i 0) same ∙ there);
        }

    pub owned : (us : List ℕ) → length us ≡ n → Listed of r known us → all_owned (positions n os) ≡ true
    owned us count l =
        (each_passes (λ o. not (eqb o 0)) (positions n os)).1
        (All-from_get_or (λ o. not (eqb o 0) ≡ true) (positions n os) 0
        (λ k h.
        let inside : k < n = omega (arith, positions_count) in
        let w = get_or us k 0 in
        let (low, high, is, place) = l.each_is k (omega arith) in
        let (least, most, there) = t.to w low high is in
        let at : get_or (positions n os) k 0 ≡ w = positions_at k inside ∙ ap (λ i. get_or os i 0) (sym place) ∙ there in
        not_from_false (eqb (get_or (positions n os) k 0) 0) (ne_eqb (get_or (positions n os) k 0) 0 (λ z. omega arith))))

-- a variable finds its position free
position_free : (of : Kind → Bool) (r : ℕ → Variable) (n known v : ℕ) (os us : List ℕ) → length us ≡ n → Listed of r known us → Table of r n v os → 1 ≤ v → v ≤ known → of (r v).kind ≡ true → free n os (r v).position ≡ true
position_free of r n known v os us count l t low high is =
    let p = (r v).position in
    let (least, most, there) = l.all_in v low high is in
    let none : get_or os p 0 ≡ 0 =
    ⊎_elim
    (λ z. z)
    (λ o.
    let w = get_or os p 0 in
    let (some, below, is_too, at) = o in
    let (a, b, c) = l.all_in w some (omega arith) is_too in
    let same : w ≡ v = sym c ∙ ap (λ i. get_or us (i - 1) 0) at ∙ there in
    absurd (omega arith))
    (t.from p) in
    and_from (leb 1 p && leb p n) (eqb (get_or os p 0) 0) (and_from (leb 1 p) (leb p n) (le-leb 1 p least) (le-leb p n (omega arith))) (eq-eqb (get_or os p 0) 0 none)

-- The variables of each kind, with lawful records, and no variable behind the last.
pub record Variables (h : Head) (vs : List Variable) : Type 0 where
  pub universals : List ℕ
  pub existentials : List ℕ
  pub universals_count : length universals ≡ h.universals
  pub existentials_count : length existentials ≡ h.existentials
  pub universals_listed : Listed is_universal (variable_at vs) h.variables universals
  pub existentials_listed : Listed is_existential (variable_at vs) h.variables existentials
  pub plain : (w : ℕ) → 1 ≤ w → w ≤ h.variables → Plain h (variable_at vs w)
  pub rest : undeclared_all (drop h.variables vs) ≡ true

pub on_true : {X : Type 0} (m : Option X) (f : X → Bool) → option_map_or f m false ≡ true → (x : X) × (m ≡ Some x) × (f x ≡ true)
on_true None f e = absurd (false≢true e)
on_true (Some x) f e = (x, refl, e)

module _ (h : Head) (vs : List Variable) (fits : h.variables ≤ length vs) (few_universals : h.universals ≤ 64) (few_existentials : h.existentials ≤ 4096) where
  abbrev known : ℕ
  known = h.variables

  abbrev r : ℕ → Variable
  r = variable_at vs

  abbrev front : List Variable
  front = take known vs

  abbrev start : Owners
  start = owners (replicate 65 0) (replicate 4097 0)

  count : length front ≡ known
  count = length-take-le known vs fits

  says : Says r 1 front
  says j l =
      let shift : j ≡ 1 + j - 1 = omega arith in
      get_or-take known vs j no_variable (omega (arith, count)) ∙ ap (λ i. get_or vs i no_variable) shift

  finished : (o : Owners) → records_own h 1 front start ≡ Some o → Owned h r (known + 1) o
  finished o e =
      let shift : 1 + length front ≡ known + 1 = omega (arith, count) in
      subst (λ (k : ℕ). Owned h r k o) shift (owned_all h r 1 front start o says (omega arith) (owned_start h r few_universals few_existentials) e)

  variables_are : variables_lawful h vs ≡ true → Variables h vs
  variables_are e =
      let (o, run, tests) = on_true (records_own h 1 front start) _ e in
      let w = finished o run in
      let us = positions h.universals o.universals in
      let es = positions h.existentials o.existentials in
      let a = and_parts (all_owned us && all_owned es) (undeclared_all (drop known vs)) tests in
      let b = and_parts (all_owned us) (all_owned es) a.0 in
      record {
        universals = us;
        existentials = es;
        universals_count = positions_count h.universals o.universals w.universals_long;
        existentials_count = positions_count h.existentials o.existentials w.existentials_long;
        universals_listed = listed h.universals o.universals w.universals_long is_universal r known w.universals b.0;
        existentials_listed = listed h.existentials o.existentials w.existentials_long is_existential r known w.existentials b.1;
        plain = λ x low high. w.plain x low (omega arith);
        rest = a.1;
      }

  module _ (a : Variables h vs) where
    next_by : (κ : Kind) (v : ℕ) (o : Owners) → 1 ≤ v → v ≤ known → Owned h r v o → (r v).kind ≡ κ → (o' : Owners) × (owns_by κ h v (r v) o ≡ Some o')
    next_by kind.Undeclared v o low high w is =
        let p = subst (λ (k : Kind). PlainBy k h (r v)) is (a.plain v low high) in
        (o, cond-true (eqb (r v).position 0 && within_word (r v).dependencies empty_word) (Some o) None (and_from _ _ (eq-eqb (r v).position 0 p.0) p.1))
    next_by kind.Universal v o low high w is =
        let p = subst (λ (k : Kind). PlainBy k h (r v)) is (a.plain v low high) in
        let at = position_free is_universal r h.universals known v o.universals a.universals a.universals_count a.universals_listed w.universals low high (ap is_universal is) in
        (owners (set o.universals (r v).position v) o.existentials, cond-true (free h.universals o.universals (r v).position && within_word (r v).dependencies empty_word) _ None (and_from _ _ at p))
    next_by kind.Existential v o low high w is =
        let p = subst (λ (k : Kind). PlainBy k h (r v)) is (a.plain v low high) in
        let at = position_free is_existential r h.existentials known v o.existentials a.existentials a.existentials_count a.existentials_listed w.existentials low high (ap is_existential is) in
        (owners o.universals (set o.existentials (r v).position v), cond-true (free h.existentials o.existentials (r v).position && within_word (r v).dependencies (first_word h.universals)) _ None (and_from _ _ at p))

    are_variables : variables_lawful h vs ≡ true
    are_variables =
        let (o, run) = own_all h r 1 front start says (omega arith) (owned_start h r few_universals few_existentials) (λ v p low high w. next_by (r v).kind v p low (omega (arith, count)) w refl) in
        let w = finished o run in
        ap (λ (m : Option Owners). option_map_or (λ p. all_owned (positions h.universals p.universals) && all_owned (positions h.existentials p.existentials) && undeclared_all (drop known vs)) m false) run
        ∙ and_from _ _
        (and_from _ _
        (owned h.universals o.universals w.universals_long is_universal r known w.universals a.universals a.universals_count a.universals_listed)
        (owned h.existentials o.existentials w.existentials_long is_existential r known w.existentials a.existentials a.existentials_count a.existentials_listed))
        a.rest

  pub decides_variables : Decides (variables_lawful h vs) (Variables h vs)
  decides_variables = (variables_are, are_variables)
