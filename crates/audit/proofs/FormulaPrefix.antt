-- The prefix of lawful records: the universals in the order of their positions, and then the existentials.
use Rattle.std.proofs.Common.{◌≡◌, ℕ, zero, suc, ◌+◌, ◌-◌, ◌^◌, ◌<◌, ◌≤◌, Bool, true, false, ◌&&◌, ◌||◌, eqb, leb, List, [], ◌∷◌, ◌++◌, map, length, get_or, drop, sym, refl, ap, ◌∙◌, subst, ap₂, ⊎_elim, arith}
use Rattle.std.specs.List.{AllByRecursion}
use Rattle.std.proofs.ByRecursion.{All-append, All-map, All-get_or, All-from_get_or}
use Rattle.std.proofs.lemmas.List.{append-nil, map-append, length-drop, get_or-drop, get_or_past}
use Rattle.std.proofs.lemmas.Bool.{both_ways, cases_Bool, cases_lt, cond-true, cond-false, and_parts, eq-eqb, eqb-true, leb-true, or_cases, or_from}
use Rattle.base.specs.declared.values.ValueWord.{ValueWord}
use Rattle.base.specs.Words.{empty_word, first_word, within_word, has_bit}
use Rattle.base.proofs.WordLaws.{has_empty, has_first, empty_bound, first_bound, within_yes, same_word}
use Rattle.formula.specs.declared.tables.Head.{Head}
use Rattle.formula.specs.declared.tables.Kind.{Kind}
use Rattle.formula.specs.declared.tables.Kind.TheVariants as kind
use Rattle.formula.specs.declared.tables.Variable.{Variable}
use Rattle.formula.specs.Groups.{no_variable, variable_at, is_undeclared, is_universal, is_existential}
use Rattle.spelling.specs.Dqbf.{Declaration, universal, existential, variable_of, universals_of, existentials_of, member, Distinct, record_from, record_of}
use Rattle.spelling.proofs.PrefixLaws.{LawfulPrefix, Stands, variables_of, universals_append, existentials_append, member_append, member_get_or, record_none, record_kept, record_new}
use Rattle.audit.specs.FormulaAudit.{undeclared}
use Rattle.audit.proofs.FormulaOwners.{Owner, PlainBy}
use Rattle.audit.proofs.FormulaVariables.{each_passes, Listed, Variables}

-- numbers in a list
pub member_place : (v : ℕ) (us : List ℕ) → member v us ≡ true → (k : ℕ) × (k < length us) × (get_or us k 0 ≡ v)
member_place v [] e = absurd (both_ways false refl e)
member_place v (u ∷ us) e =
    ⊎_elim
    (λ here. (0, omega arith, eqb-true u v here))
    (λ there. let (k, h, at) = member_place v us there in (suc k, omega arith, at))
    (or_cases (eqb u v) (member v us) e)

pub distinct_places : (us : List ℕ) → ((i j : ℕ) → i < length us → j < length us → get_or us i 0 ≡ get_or us j 0 → i ≡ j) → Distinct us
distinct_places [] once = tt
distinct_places (u ∷ us) once = (
  ⊎_elim
      (λ e. let (k, h, at) = member_place u us e in let z : 0 ≡ suc k = once 0 (suc k) (omega arith) (omega arith) (sym at) in absurd (omega arith))
      (λ e. e)
      (cases_Bool (member u us)),
  distinct_places us (λ i j h l e. let s : suc i ≡ suc j = once (suc i) (suc j) (omega arith) (omega arith) e in omega arith),
)

pub distinct_append : (us vs : List ℕ) → Distinct us → Distinct vs → ((v : ℕ) → member v us ≡ true → member v vs ≡ false) → Distinct (us ++ vs)
distinct_append [] vs d e apart = e
distinct_append (u ∷ us) vs (n, d) e apart = (
  member_append u us vs ∙ or_from (member u us) (member u vs) n (apart u (ap (λ b. b || member u us) (eq-eqb u u refl))),
  distinct_append us vs d e (λ v m. apart v (elim (eqb u v) as (λ b. (b || member v us) ≡ true) [ true ↦ refl | false ↦ m ])),
)

-- declarations of one kind
module _ (f : ℕ → ValueWord) where
  abbrev pub dependent : ℕ → Declaration
  dependent v = existential v (f v)

  pub dependent_variables : (es : List ℕ) → variables_of (map dependent es) ≡ es
  dependent_variables [] = refl
  dependent_variables (v ∷ es) = ap (λ l. v ∷ l) (dependent_variables es)

  pub dependent_universals : (es : List ℕ) → universals_of (map dependent es) ≡ []
  dependent_universals [] = refl
  dependent_universals (v ∷ es) = dependent_universals es

  pub dependent_existentials : (es : List ℕ) → existentials_of (map dependent es) ≡ es
  dependent_existentials [] = refl
  dependent_existentials (v ∷ es) = ap (λ l. v ∷ l) (dependent_existentials es)

  record_dependent : (es : List ℕ) (k n e : ℕ) → k < length es → Distinct es → record_from (get_or es k 0) n e (map dependent es) ≡ record { kind = kind.Existential; position = e + (k + 1); dependencies = f (get_or es k 0) }
  record_dependent [] k n e h d = absurd (omega arith)
  record_dependent (v ∷ es) zero n e h d = cond-true (eqb v v) _ _ (eq-eqb v v refl)
  record_dependent (v ∷ es) (suc k) n e h (new, d) =
      let w = get_or es k 0 in
      let other : eqb v w ≡ false = ⊎_elim (λ t. absurd (both_ways (member v es) new (ap (λ x. member x es) (eqb-true v w t) ∙ member_get_or es k (omega arith)))) (λ t. t) (cases_Bool (eqb v w)) in
      let shift : e + 1 + (k + 1) ≡ e + (suc k + 1) = omega arith in
      cond-false (eqb v w) _ _ other ∙ record_dependent es k n (e + 1) (omega arith) d
      ∙ ap (λ (p : ℕ). record { kind = kind.Existential; position = p; dependencies = f w }) shift

pub free_variables : (us : List ℕ) → variables_of (map universal us) ≡ us
free_variables [] = refl
free_variables (v ∷ us) = ap (λ l. v ∷ l) (free_variables us)

pub free_universals : (us : List ℕ) → universals_of (map universal us) ≡ us
free_universals [] = refl
free_universals (v ∷ us) = ap (λ l. v ∷ l) (free_universals us)

pub free_existentials : (us : List ℕ) → existentials_of (map universal us) ≡ []
free_existentials [] = refl
free_existentials (v ∷ us) = free_existentials us

record_free : (us : List ℕ) (k n e : ℕ) → k < length us → Distinct us → record_from (get_or us k 0) n e (map universal us) ≡ record { kind = kind.Universal; position = n + (k + 1); dependencies = empty_word }
record_free [] k n e h d = absurd (omega arith)
record_free (v ∷ us) zero n e h d = cond-true (eqb v v) _ _ (eq-eqb v v refl)
record_free (v ∷ us) (suc k) n e h (new, d) =
    let w = get_or us k 0 in
    let other : eqb v w ≡ false = ⊎_elim (λ t. absurd (both_ways (member v us) new (ap (λ x. member x us) (eqb-true v w t) ∙ member_get_or us k (omega arith)))) (λ t. t) (cases_Bool (eqb v w)) in
    let shift : n + 1 + (k + 1) ≡ n + (suc k + 1) = omega arith in
    cond-false (eqb v w) _ _ other ∙ record_free us k (n + 1) e (omega arith) d
    ∙ ap (λ (p : ℕ). record { kind = kind.Universal; position = p; dependencies = empty_word }) shift

-- universals, and existentials with these dependencies
abbrev pub prefix_of : (ℕ → ValueWord) → List ℕ → List ℕ → List Declaration
prefix_of f us es = map universal us ++ map (dependent f) es

module _ (f : ℕ → ValueWord) (us es : List ℕ) where
  pub prefix_variables : variables_of (prefix_of f us es) ≡ us ++ es
  prefix_variables = map-append variable_of (map universal us) (map (dependent f) es) ∙ ap₂ ◌++◌ (free_variables us) (dependent_variables f es)

  pub prefix_universals : universals_of (prefix_of f us es) ≡ us
  prefix_universals = universals_append (map universal us) (map (dependent f) es) ∙ ap₂ ◌++◌ (free_universals us) (dependent_universals f es) ∙ append-nil us

  pub prefix_existentials : existentials_of (prefix_of f us es) ≡ es
  prefix_existentials = existentials_append (map universal us) (map (dependent f) es) ∙ ap₂ ◌++◌ (free_existentials us) (dependent_existentials f es)

  pub record_of_universal : (v k : ℕ) → Distinct us → Stands us v k → record_of (prefix_of f us es) v ≡ record { kind = kind.Universal; position = k; dependencies = empty_word }
  record_of_universal v k d (low, high, at) =
      let ds = map universal us in
      let shift : 0 + (k - 1 + 1) ≡ k = omega arith in
      let there : member v (variables_of ds) ≡ true = ap (member v) (free_variables us) ∙ ap (λ x. member x us) (sym at) ∙ member_get_or us (k - 1) (omega arith) in
      record_kept ds (map (dependent f) es) v there
      ∙ ap (λ x. record_of ds x) (sym at)
      ∙ record_free us (k - 1) 0 0 (omega arith) d
      ∙ ap (λ (p : ℕ). record { kind = kind.Universal; position = p; dependencies = empty_word }) shift

  pub record_of_existential : (v k : ℕ) → Distinct es → member v us ≡ false → Stands es v k → record_of (prefix_of f us es) v ≡ record { kind = kind.Existential; position = k; dependencies = f v }
  record_of_existential v k d apart (low, high, at) =
      let ds = map universal us in
      let shift : 0 + (k - 1 + 1) ≡ k = omega arith in
      record_new ds (map (dependent f) es) v (ap (member v) (free_variables us) ∙ apart)
      ∙ ap (λ l. record_from v (length (universals_of ds)) (length l) (map (dependent f) es)) (free_existentials us)
      ∙ ap (λ x. record_from x (length (universals_of ds)) 0 (map (dependent f) es)) (sym at)
      ∙ record_dependent f es (k - 1) (length (universals_of ds)) 0 (omega arith) d
      ∙ ap₂ (λ (p x : ℕ). record { kind = kind.Existential; position = p; dependencies = f x }) shift at

  pub record_of_other : (v : ℕ) → member v us ≡ false → member v es ≡ false → record_of (prefix_of f us es) v ≡ no_variable
  record_of_other v a b =
      record_none v 0 0 (prefix_of f us es) (ap (member v) prefix_variables ∙ member_append v us es ∙ or_from (member v us) (member v es) a b)

-- words within another
pub empty_within : (a : ValueWord) → a.bits < 2 ^ 64 → within_word a empty_word ≡ true → a ≡ empty_word
empty_within a low e =
    same_word a empty_word low empty_bound
    (λ k. ⊎_elim (λ t. absurd (both_ways (has_bit empty_word k) (has_empty k) (within_yes a empty_word low empty_bound e k t))) (λ t. t ∙ sym (has_empty k)) (cases_Bool (has_bit a k)))

-- a word of positions from 1 to n
abbrev pub Positions : ℕ → ValueWord → Type 0
Positions n w = (w.bits < 2 ^ 64) × ((k : ℕ) → has_bit w k ≡ true → (1 ≤ k) × (k ≤ n))

pub first_within : (n : ℕ) (a : ValueWord) → n ≤ 64 → a.bits < 2 ^ 64 → within_word a (first_word n) ≡ true → Positions n a
first_within n a few low e = (
  low,
  λ k t.
      let p = and_parts (leb 1 k) (leb k n) (sym (has_first n k few) ∙ within_yes a (first_word n) low (first_bound n) e k t) in
      (leb-true 1 k p.0, leb-true k n p.1),
)

variable_same : (x y : Variable) → x.kind ≡ y.kind → x.position ≡ y.position → x.dependencies ≡ y.dependencies → x ≡ y
variable_same x y a b c =
    ap (λ (k : Kind). record { kind = k; position = x.position; dependencies = x.dependencies }) a
    ∙ ap₂ (λ (p : ℕ) (w : ValueWord). record { kind = y.kind; position = p; dependencies = w }) b c

empty_is : empty_word ≡ record { bits = 0 }
unfolding empty_word
empty_is = refl

nothing : (x : Variable) → x.kind ≡ kind.Undeclared → x.position ≡ 0 → x.dependencies.bits < 2 ^ 64 → within_word x.dependencies empty_word ≡ true → x ≡ no_variable
nothing x a b low e = variable_same x no_variable a b (empty_within x.dependencies low e ∙ empty_is)

is_none : (κ : Kind) → is_undeclared κ ≡ true → κ ≡ kind.Undeclared
is_none kind.Undeclared e = refl
is_none kind.Universal e = absurd (both_ways false refl e)
is_none kind.Existential e = absurd (both_ways false refl e)

universal_only : (κ : Kind) → is_universal κ ≡ true → is_existential κ ≡ false
universal_only kind.Undeclared e = refl
universal_only kind.Universal e = refl
universal_only kind.Existential e = absurd (both_ways false refl e)

-- the variables of a kind
module _ (of : Kind → Bool) (r : ℕ → Variable) (known : ℕ) (us : List ℕ) (l : Listed of r known us) where
  listed_is : (v : ℕ) → member v us ≡ true → (1 ≤ v) × (v ≤ known) × (of (r v).kind ≡ true)
  listed_is v m =
      let (k, h, at) = member_place v us m in
      let (low, high, is, place) = subst (Owner of r (known + 1) (k + 1)) at (l.each_is k h) in
      (low, omega arith, is)

  pub listed_distinct : Distinct us
  listed_distinct =
      distinct_places us
      (λ i j h g e.
      let a = l.each_is i h in
      let b = l.each_is j g in
      let same : i + 1 ≡ j + 1 = sym a.3 ∙ ap (λ (w : ℕ). (r w).position) e ∙ b.3 in
      omega arith)

  listed_not : (v : ℕ) → of (r v).kind ≡ false → member v us ≡ false
  listed_not v other = ⊎_elim (λ m. absurd (both_ways (of (r v).kind) other (listed_is v m).2)) (λ m. m) (cases_Bool (member v us))

  listed_beyond : (v : ℕ) → known < v → member v us ≡ false
  listed_beyond v over = ⊎_elim (λ m. absurd (let h = listed_is v m in omega arith)) (λ m. m) (cases_Bool (member v us))

  pub listed_range : AllByRecursion (λ v. (1 ≤ v) × (v ≤ known)) us
  listed_range = All-from_get_or (λ v. (1 ≤ v) × (v ≤ known)) us 0 (λ i h. let (low, high, is, place) = l.each_is i h in (low, omega arith))

module _ (h : Head) (vs : List Variable) (few_universals : h.universals ≤ 64) (few_existentials : h.existentials ≤ 4096) (low : AllByRecursion (λ x. x.dependencies.bits < 2 ^ 64) vs) (a : Variables h vs) where
  abbrev known : ℕ
  known = h.variables

  abbrev r : ℕ → Variable
  r = variable_at vs

  abbrev us : List ℕ
  us = a.universals

  abbrev es : List ℕ
  es = a.existentials

  abbrev pub depends_on : ℕ → ValueWord
  depends_on v = (r v).dependencies

  abbrev pub held_prefix : List Declaration
  held_prefix = prefix_of depends_on us es

  bound : (v : ℕ) → (r v).dependencies.bits < 2 ^ 64
  bound v =
      ⊎_elim
      (λ l. All-get_or (λ x. x.dependencies.bits < 2 ^ 64) vs (v - 1) no_variable l low)
      (λ l. subst (λ (x : Variable). x.dependencies.bits < 2 ^ 64) (sym (get_or_past vs (v - 1) no_variable l)) (omega arith))
      (cases_lt (v - 1) (length vs))

  distinct_us : Distinct us
  distinct_us = listed_distinct is_universal r known us a.universals_listed

  distinct_es : Distinct es
  distinct_es = listed_distinct is_existential r known es a.existentials_listed

  -- no variable behind the last is declared
  beyond : (v : ℕ) → known < v → r v ≡ no_variable
  beyond v over =
      ⊎_elim
      (λ (l : v - 1 < length vs).
      let i = v - 1 - known in
      let all = (each_passes undeclared (drop known vs)).0 a.rest in
      let passed = All-get_or (λ x. undeclared x ≡ true) (drop known vs) i no_variable (simp length-drop (omega arith)) all in
      let shift : known + i ≡ v - 1 = omega arith in
      let there : undeclared (r v) ≡ true = ap undeclared (sym (get_or-drop known vs i no_variable ∙ ap (λ j. get_or vs j no_variable) shift)) ∙ passed in
      let p = and_parts (is_undeclared (r v).kind && eqb (r v).position 0) (within_word (r v).dependencies empty_word) there in
      let q = and_parts (is_undeclared (r v).kind) (eqb (r v).position 0) p.0 in
      nothing (r v) (is_none (r v).kind q.0) (eqb-true (r v).position 0 q.1) (bound v) p.1)
      (λ l. get_or_past vs (v - 1) no_variable l)
      (cases_lt (v - 1) (length vs))

  record_by : (κ : Kind) (v : ℕ) → (r v).kind ≡ κ → 1 ≤ v → v ≤ known → record_of held_prefix v ≡ r v
  record_by kind.Undeclared v is some most =
      let p = subst (λ (k : Kind). PlainBy k h (r v)) is (a.plain v some most) in
      record_of_other depends_on us es v (listed_not is_universal r known us a.universals_listed v (ap is_universal is)) (listed_not is_existential r known es a.existentials_listed v (ap is_existential is))
      ∙ sym (nothing (r v) is p.0 (bound v) p.1)
  record_by kind.Universal v is some most =
      let p = subst (λ (k : Kind). PlainBy k h (r v)) is (a.plain v some most) in
      record_of_universal depends_on us es v (r v).position distinct_us (a.universals_listed.all_in v some most (ap is_universal is))
      ∙ sym (variable_same (r v) (record { kind = kind.Universal; position = (r v).position; dependencies = empty_word }) is refl (empty_within (r v).dependencies (bound v) p))
  record_by kind.Existential v is some most =
      record_of_existential depends_on us es v (r v).position distinct_es (listed_not is_universal r known us a.universals_listed v (ap is_universal is)) (a.existentials_listed.all_in v some most (ap is_existential is))
      ∙ sym (variable_same (r v) (record { kind = kind.Existential; position = (r v).position; dependencies = (r v).dependencies }) is refl refl)

  -- the records are those of the prefix
  pub held_records : (v : ℕ) → 1 ≤ v → record_of held_prefix v ≡ r v
  held_records v some =
      ⊎_elim
      (λ over.
      record_of_other depends_on us es v (listed_beyond is_universal r known us a.universals_listed v over) (listed_beyond is_existential r known es a.existentials_listed v over)
      ∙ sym (beyond v over))
      (λ most. record_by (r v).kind v refl some most)
      (cases_lt known v)

  pub held_lawful : LawfulPrefix known held_prefix
  held_lawful =
      let in_range = λ (d : Declaration). (1 ≤ variable_of d) × (variable_of d ≤ known) in
      record {
        few_universals = rw (prefix_universals depends_on us es) (omega (arith, a.universals_count));
        few_existentials = rw (prefix_existentials depends_on us es) (omega (arith, a.existentials_count));
        in_range = All-append in_range (map universal us) (map (dependent depends_on) es)
            (All-map in_range universal us (listed_range is_universal r known us a.universals_listed))
            (All-map in_range (dependent depends_on) es (listed_range is_existential r known es a.existentials_listed));
        once = subst Distinct (sym (prefix_variables depends_on us es))
            (distinct_append us es distinct_us distinct_es
            (λ v m. listed_not is_existential r known es a.existentials_listed v (universal_only (r v).kind (listed_is is_universal r known us a.universals_listed v m).2)));
      }

  plain_existential : (κ : Kind) (x : Variable) → is_existential κ ≡ true → PlainBy κ h x → within_word x.dependencies (first_word h.universals) ≡ true
  plain_existential kind.Undeclared x e p = absurd (both_ways false refl e)
  plain_existential kind.Universal x e p = absurd (both_ways false refl e)
  plain_existential kind.Existential x e p = p

  -- the dependencies are positions of universals
  pub held_positions : AllByRecursion (λ v. Positions (length us) (depends_on v)) es
  held_positions =
      All-from_get_or (λ v. Positions (length us) (depends_on v)) es 0
      (λ i l.
      let v = get_or es i 0 in
      let (some, most, is, place) = a.existentials_listed.each_is i l in
      let w = plain_existential (r v).kind (r v) is (a.plain v some (omega arith)) in
      subst (λ (n : ℕ). Positions n (depends_on v)) (sym a.universals_count) (first_within h.universals (depends_on v) few_universals (bound v) w))
