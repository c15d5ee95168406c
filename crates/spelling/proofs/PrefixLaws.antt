-- Laws of prefixes: what a list of declarations says of a variable, and how it grows.
use Rattle.std.proofs.Common.{◌≡◌, ℕ, zero, suc, ◌+◌, ◌-◌, ◌<◌, ◌≤◌, true, false, cond, not, ◌||◌, eqb, List, [], ◌∷◌, ◌++◌, map, length, get_or, sym, refl, ap, ◌∙◌, subst, ap₂, ⊎_elim, add-zero, arith}
use Rattle.std.specs.List.{AllByRecursion}
use Rattle.std.proofs.lemmas.List.{length-append, map-append}
use Rattle.std.proofs.lemmas.Bool.{both_ways, cases_Bool, cond-true, cond-false, eqb-true, eq-eqb, ne_eqb, or_cases, or_parts, or_left, or_right, or_from}
use Rattle.std.proofs.lemmas.Bool.Decides.{nat_tests}
use Rattle.base.specs.Words.{empty_word}
use Rattle.formula.specs.declared.tables.Kind.TheVariants as kind
use Rattle.formula.specs.declared.tables.Variable.{Variable}
use Rattle.formula.specs.Groups.{no_variable, is_undeclared, is_universal}
use Rattle.spelling.specs.Dqbf.{Declaration, universal, existential, variable_of, universals_of, existentials_of, member, Distinct, record_from, record_of, Dqbf, Lawful}

-- numbers in a list
pub member_append : (v : ℕ) (xs ys : List ℕ) → member v (xs ++ ys) ≡ (member v xs || member v ys)
member_append v [] ys = refl
member_append v (x ∷ xs) ys =
    elim (eqb x v) as (λ b. (b || member v (xs ++ ys)) ≡ (b || member v xs || member v ys)) [ true ↦ refl | false ↦ member_append v xs ys ]

pub member_push : (v : ℕ) (xs : List ℕ) (y : ℕ) → member v (xs ++ y ∷ []) ≡ (member v xs || eqb y v)
member_push v xs y =
    member_append v xs (y ∷ []) ∙ ap (λ b. member v xs || b) (elim (eqb y v) as (λ b. (b || false) ≡ b) [ true ↦ refl | false ↦ refl ])

pub member_get_or : (us : List ℕ) (i : ℕ) → i < length us → member (get_or us i 0) us ≡ true
member_get_or [] i h = absurd (omega arith)
member_get_or (x ∷ xs) zero h = or_left (eqb x x) (member x xs) (eq-eqb x x refl)
member_get_or (x ∷ xs) (suc i) h = or_right (eqb x (get_or xs i 0)) (member (get_or xs i 0) xs) (member_get_or xs i (omega arith))

pub distinct_push : (xs : List ℕ) (y : ℕ) → Distinct xs → member y xs ≡ false → Distinct (xs ++ y ∷ [])
distinct_push [] y d e = (refl, tt)
distinct_push (x ∷ xs) y (n, d) e =
    let p = or_parts (eqb x y) (member y xs) e in
    let apart : eqb y x ≡ false = grind (arith, nat_tests) in
    (member_push x xs y ∙ or_from (member x xs) (eqb y x) n apart, distinct_push xs y d p.1)

pub distinct_front : (xs ys : List ℕ) → Distinct (xs ++ ys) → Distinct xs
distinct_front [] ys d = tt
distinct_front (x ∷ xs) ys (n, d) =
    ((or_parts (member x xs) (member x ys) (sym (member_append x xs ys) ∙ n)).0, distinct_front xs ys d)

pub distinct_next : (xs : List ℕ) (y : ℕ) (ys : List ℕ) → Distinct (xs ++ y ∷ ys) → member y xs ≡ false
distinct_next [] y ys d = refl
distinct_next (x ∷ xs) y ys (n, d) =
    let p = or_parts (member x xs) (eqb y x || member x ys) (sym (member_append x xs (y ∷ ys)) ∙ n) in
    let q = or_parts (eqb y x) (member x ys) p.1 in
    let apart : eqb x y ≡ false = grind (arith, nat_tests) in
    or_from (eqb x y) (member y xs) apart (distinct_next xs y ys d)

-- of distinct numbers, each stands at one place only
pub place_once : (us : List ℕ) (i j : ℕ) → Distinct us → i < length us → j < length us → get_or us i 0 ≡ get_or us j 0 → i ≡ j
place_once [] i j d h k e = absurd (omega arith)
place_once (x ∷ xs) zero zero d h k e = refl
place_once (x ∷ xs) zero (suc j) (n, d) h k e =
    absurd (both_ways (member x xs) n (ap (λ v. member v xs) e ∙ member_get_or xs j (omega arith)))
place_once (x ∷ xs) (suc i) zero (n, d) h k e =
    absurd (both_ways (member x xs) n (ap (λ v. member v xs) (sym e) ∙ member_get_or xs i (omega arith)))
place_once (x ∷ xs) (suc i) (suc j) (n, d) h k e = ap suc (place_once xs i j d (omega arith) (omega arith) e)

-- the variables that a prefix declares
abbrev pub variables_of : List Declaration → List ℕ
variables_of ds = map variable_of ds

pub universals_append : (xs ys : List Declaration) → universals_of (xs ++ ys) ≡ universals_of xs ++ universals_of ys
universals_append [] ys = refl
universals_append (universal v ∷ xs) ys = ap (λ l. v ∷ l) (universals_append xs ys)
universals_append (existential v w ∷ xs) ys = universals_append xs ys

pub existentials_append : (xs ys : List Declaration) → existentials_of (xs ++ ys) ≡ existentials_of xs ++ existentials_of ys
existentials_append [] ys = refl
existentials_append (universal v ∷ xs) ys = existentials_append xs ys
existentials_append (existential v w ∷ xs) ys = ap (λ l. v ∷ l) (existentials_append xs ys)

pub universal_declared : (v : ℕ) (ds : List Declaration) → member v (variables_of ds) ≡ false → member v (universals_of ds) ≡ false
universal_declared v [] e = refl
universal_declared v (universal u ∷ ds) e =
    let p = or_parts (eqb u v) (member v (variables_of ds)) e in
    or_from (eqb u v) (member v (universals_of ds)) p.0 (universal_declared v ds p.1)
universal_declared v (existential u w ∷ ds) e = universal_declared v ds (or_parts (eqb u v) (member v (variables_of ds)) e).1

pub universals_distinct : (ds : List Declaration) → Distinct (variables_of ds) → Distinct (universals_of ds)
universals_distinct [] d = tt
universals_distinct (universal u ∷ ds) (n, d) = (universal_declared u ds n, universals_distinct ds d)
universals_distinct (existential u w ∷ ds) (n, d) = universals_distinct ds d

-- the record of a variable
pub record_none : (v n e : ℕ) (ds : List Declaration) → member v (variables_of ds) ≡ false → record_from v n e ds ≡ no_variable
record_none v n e [] h = refl
record_none v n e (universal u ∷ ds) h =
    let p = or_parts (eqb u v) (member v (variables_of ds)) h in
    cond-false (eqb u v) _ _ p.0 ∙ record_none v (n + 1) e ds p.1
record_none v n e (existential u w ∷ ds) h =
    let p = or_parts (eqb u v) (member v (variables_of ds)) h in
    cond-false (eqb u v) _ _ p.0 ∙ record_none v n (e + 1) ds p.1

pub record_undeclared : (v n e : ℕ) (ds : List Declaration) → is_undeclared (record_from v n e ds).kind ≡ not (member v (variables_of ds))
record_undeclared v n e [] = refl
record_undeclared v n e (universal u ∷ ds) =
    let R : Variable = record { kind = kind.Universal; position = n + 1; dependencies = empty_word } in
    elim (eqb u v) as (λ b. is_undeclared (cond b R (record_from v (n + 1) e ds)).kind ≡ not (b || member v (variables_of ds)))
    [ true ↦ refl | false ↦ record_undeclared v (n + 1) e ds ]
record_undeclared v n e (existential u w ∷ ds) =
    let R : Variable = record { kind = kind.Existential; position = e + 1; dependencies = w } in
    elim (eqb u v) as (λ b. is_undeclared (cond b R (record_from v n (e + 1) ds)).kind ≡ not (b || member v (variables_of ds)))
    [ true ↦ refl | false ↦ record_undeclared v n (e + 1) ds ]

-- the record after more declarations: the old one if there is one
pub record_append : (v n e : ℕ) (ds more : List Declaration) → record_from v n e (ds ++ more) ≡ cond (member v (variables_of ds)) (record_from v n e ds) (record_from v (n + length (universals_of ds)) (e + length (existentials_of ds)) more)
record_append v n e [] more = ap₂ (λ a b. record_from v a b more) (sym (add-zero n)) (sym (add-zero e))
record_append v n e (universal u ∷ ds) more =
    let R : Variable = record { kind = kind.Universal; position = n + 1; dependencies = empty_word } in
    let m = length (universals_of ds) in
    let f = e + length (existentials_of ds) in
    let shift : n + 1 + m ≡ n + suc m = omega arith in
    elim (eqb u v)
    as (λ b. cond b R (record_from v (n + 1) e (ds ++ more)) ≡ cond (b || member v (variables_of ds)) (cond b R (record_from v (n + 1) e ds)) (record_from v (n + suc m) f more))
    [ true ↦ refl | false ↦ record_append v (n + 1) e ds more ∙ ap (λ k. cond (member v (variables_of ds)) (record_from v (n + 1) e ds) (record_from v k f more)) shift ]
record_append v n e (existential u w ∷ ds) more =
    let R : Variable = record { kind = kind.Existential; position = e + 1; dependencies = w } in
    let m = n + length (universals_of ds) in
    let f = length (existentials_of ds) in
    let shift : e + 1 + f ≡ e + suc f = omega arith in
    elim (eqb u v)
    as (λ b. cond b R (record_from v n (e + 1) (ds ++ more)) ≡ cond (b || member v (variables_of ds)) (cond b R (record_from v n (e + 1) ds)) (record_from v m (e + suc f) more))
    [ true ↦ refl | false ↦ record_append v n (e + 1) ds more ∙ ap (λ k. cond (member v (variables_of ds)) (record_from v n (e + 1) ds) (record_from v m k more)) shift ]

pub record_kept : (ds more : List Declaration) (v : ℕ) → member v (variables_of ds) ≡ true → record_of (ds ++ more) v ≡ record_of ds v
record_kept ds more v h = record_append v 0 0 ds more ∙ cond-true (member v (variables_of ds)) _ _ h

pub record_new : (ds more : List Declaration) (v : ℕ) → member v (variables_of ds) ≡ false → record_of (ds ++ more) v ≡ record_from v (length (universals_of ds)) (length (existentials_of ds)) more
record_new ds more v h =
    let zero_left : (k : ℕ) → 0 + k ≡ k = λ k. omega arith in
    record_append v 0 0 ds more ∙ cond-false (member v (variables_of ds)) _ _ h
    ∙ ap₂ (λ a b. record_from v a b more) (zero_left (length (universals_of ds))) (zero_left (length (existentials_of ds)))

-- a declaration of another variable leaves the record
record_one_other : (v n e : ℕ) (decl : Declaration) → eqb (variable_of decl) v ≡ false → record_from v n e (decl ∷ []) ≡ no_variable
record_one_other v n e decl h = record_none v n e (decl ∷ []) (or_from (eqb (variable_of decl) v) false h refl)

pub record_other : (ds : List Declaration) (decl : Declaration) (v : ℕ) → (v ≡ variable_of decl → ⊥) → record_of (ds ++ decl ∷ []) v ≡ record_of ds v
record_other ds decl v h =
    let apart : eqb (variable_of decl) v ≡ false = ne_eqb (variable_of decl) v (λ e. h (sym e)) in
    ⊎_elim
    (λ e. record_kept ds (decl ∷ []) v e)
    (λ e. record_new ds (decl ∷ []) v e ∙ record_one_other v _ _ decl apart ∙ sym (record_none v 0 0 ds e))
    (cases_Bool (member v (variables_of ds)))

-- v is the k-th of these numbers
abbrev pub Stands : List ℕ → ℕ → ℕ → Type 0
Stands us v k = (1 ≤ k) × (k ≤ length us) × (get_or us (k - 1) 0 ≡ v)

stands_more : (us : List ℕ) (u v j n p : ℕ) → p ≡ n + 1 + j → Stands us v j → (k : ℕ) × (p ≡ n + k) × Stands (u ∷ us) v k
stands_more us u v zero n p e (a, b, c) = absurd (omega arith)
stands_more us u v (suc j) n p e (a, b, c) =
    let one : suc (suc j) - 1 ≡ suc j = omega arith in
    let less : suc j - 1 ≡ j = omega arith in
    (suc (suc j), omega arith, (omega arith, omega arith, ap (λ i. get_or (u ∷ us) i 0) one ∙ ap (λ i. get_or us i 0) (sym less) ∙ c))

-- a variable whose record is a universal's is the universal of that position
record_place : (v n e : ℕ) (ds : List Declaration) → is_universal (record_from v n e ds).kind ≡ true → (k : ℕ) × ((record_from v n e ds).position ≡ n + k) × Stands (universals_of ds) v k
record_place v n e [] h = absurd (both_ways false refl h)
record_place v n e (universal u ∷ ds) h =
    ⊎_elim
    (λ b.
    let at : record_from v n e (universal u ∷ ds) ≡ record { kind = kind.Universal; position = n + 1; dependencies = empty_word } = cond-true (eqb u v) _ _ b in
    (1, ap (λ (x : Variable). x.position) at, (omega arith, omega arith, eqb-true u v b)))
    (λ b.
    let at : record_from v n e (universal u ∷ ds) ≡ record_from v (n + 1) e ds = cond-false (eqb u v) _ _ b in
    let r = record_place v (n + 1) e ds (ap (λ (x : Variable). is_universal x.kind) (sym at) ∙ h) in
    stands_more (universals_of ds) u v r.0 n _ (ap (λ (x : Variable). x.position) at ∙ r.1) r.2)
    (cases_Bool (eqb u v))
record_place v n e (existential u w ∷ ds) h =
    ⊎_elim
    (λ b.
    let at : record_from v n e (existential u w ∷ ds) ≡ record { kind = kind.Existential; position = e + 1; dependencies = w } = cond-true (eqb u v) _ _ b in
    absurd (both_ways (is_universal (record_from v n e (existential u w ∷ ds)).kind) (ap (λ (x : Variable). is_universal x.kind) at) h))
    (λ b.
    let at : record_from v n e (existential u w ∷ ds) ≡ record_from v n (e + 1) ds = cond-false (eqb u v) _ _ b in
    let r = record_place v n (e + 1) ds (ap (λ (x : Variable). is_universal x.kind) (sym at) ∙ h) in
    (r.0, ap (λ (x : Variable). x.position) at ∙ r.1, r.2))
    (cases_Bool (eqb u v))

-- its position is where it stands among the universals
pub universal_place : (ds : List Declaration) (v : ℕ) → is_universal (record_of ds v).kind ≡ true → Stands (universals_of ds) v (record_of ds v).position
universal_place ds v h =
    let r = record_place v 0 0 ds h in
    let zero_left : (k : ℕ) → k ≡ 0 + k = λ k. omega arith in
    subst (Stands (universals_of ds) v) (zero_left r.0 ∙ sym r.1) r.2

record_universal : (v n e : ℕ) (ds : List Declaration) → Distinct (variables_of ds) → member v (universals_of ds) ≡ true → is_universal (record_from v n e ds).kind ≡ true
record_universal v n e [] d h = absurd (both_ways false refl h)
record_universal v n e (universal u ∷ ds) (a, d) h =
    ⊎_elim
    (λ b. ap (λ (x : Variable). is_universal x.kind) (cond-true (eqb u v) _ _ b))
    (λ b.
    let there = ⊎_elim (λ t. absurd (both_ways (eqb u v) b t)) (λ t. t) (or_cases (eqb u v) (member v (universals_of ds)) h) in
    ap (λ (x : Variable). is_universal x.kind) (cond-false (eqb u v) _ _ b) ∙ record_universal v (n + 1) e ds d there)
    (cases_Bool (eqb u v))
record_universal v n e (existential u w ∷ ds) (a, d) h =
    ⊎_elim
    (λ b. absurd (both_ways (member v (universals_of ds)) (universal_declared v ds (ap (λ x. member x (variables_of ds)) (sym (eqb-true u v b)) ∙ a)) h))
    (λ b. ap (λ (x : Variable). is_universal x.kind) (cond-false (eqb u v) _ _ b) ∙ record_universal v n (e + 1) ds d h)
    (cases_Bool (eqb u v))

-- a universal of the prefix has a universal's record
pub universal_record : (ds : List Declaration) (v : ℕ) → Distinct (variables_of ds) → member v (universals_of ds) ≡ true → is_universal (record_of ds v).kind ≡ true
universal_record ds v d h = record_universal v 0 0 ds d h

-- and its position is the one place where it stands
pub place_universal : (ds : List Declaration) (v k : ℕ) → Distinct (variables_of ds) → Stands (universals_of ds) v k → (is_universal (record_of ds v).kind ≡ true) × ((record_of ds v).position ≡ k)
place_universal ds v k d (low, high, at) =
    let us = universals_of ds in
    let is = universal_record ds v d (ap (λ x. member x us) (sym at) ∙ member_get_or us (k - 1) (omega arith)) in
    let (least, most, there) = universal_place ds v is in
    let same = place_once us ((record_of ds v).position - 1) (k - 1) (universals_distinct ds d) (omega arith) (omega arith) (there ∙ sym at) in
    (is, omega arith)

-- A prefix within the limits, over variables 1 to `known`, none declared twice.
pub record LawfulPrefix (known : ℕ) (prefix : List Declaration) : Type 0 where
  pub few_universals : length (universals_of prefix) ≤ 64
  pub few_existentials : length (existentials_of prefix) ≤ 4096
  pub in_range : AllByRecursion (λ d. (1 ≤ variable_of d) × (variable_of d ≤ known)) prefix
  pub once : Distinct (map variable_of prefix)

all_front : {X : Type 0} (P : X → Type 0) (xs ys : List X) → AllByRecursion P (xs ++ ys) → AllByRecursion P xs
all_front P [] ys h = tt
all_front P (x ∷ xs) ys (p, h) = (p, all_front P xs ys h)

pub all_next : {X : Type 0} (P : X → Type 0) (xs : List X) (y : X) (ys : List X) → AllByRecursion P (xs ++ y ∷ ys) → P y
all_next P [] y ys (p, h) = p
all_next P (x ∷ xs) y ys (p, h) = all_next P xs y ys h

pub lawful_front : (known : ℕ) (xs ys : List Declaration) → LawfulPrefix known (xs ++ ys) → LawfulPrefix known xs
lawful_front known xs ys l = record {
  few_universals = omega (arith, l.few_universals, simp length-append at (ap length (universals_append xs ys)));
  few_existentials = omega (arith, l.few_existentials, simp length-append at (ap length (existentials_append xs ys)));
  in_range = all_front _ xs ys l.in_range;
  once = distinct_front (variables_of xs) (variables_of ys) (subst Distinct (map-append variable_of xs ys) l.once);
}

-- the next declaration of a lawful prefix is of a variable in range, and new
pub lawful_range : (known : ℕ) (xs : List Declaration) (decl : Declaration) → LawfulPrefix known (xs ++ decl ∷ []) → (1 ≤ variable_of decl) × (variable_of decl ≤ known)
lawful_range known xs decl l = all_next _ xs decl [] l.in_range

pub lawful_new : (known : ℕ) (xs : List Declaration) (decl : Declaration) → LawfulPrefix known (xs ++ decl ∷ []) → member (variable_of decl) (variables_of xs) ≡ false
lawful_new known xs decl l =
    distinct_next (variables_of xs) (variable_of decl) [] (subst Distinct (map-append variable_of xs (decl ∷ [])) l.once)

pub prefix_lawful : (f : Dqbf) → Lawful f → LawfulPrefix f.variables f.prefix
prefix_lawful f l = record {
  few_universals = l.few_universals;
  few_existentials = l.few_existentials;
  in_range = l.in_range;
  once = l.once;
}
