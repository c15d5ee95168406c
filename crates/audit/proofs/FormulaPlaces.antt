-- What a lawful prefix says of its variables: the existentials' positions, and the dependencies.
use Rattle.std.proofs.Common.{◌≡◌, ℕ, zero, suc, ◌+◌, ◌-◌, ◌<◌, ◌≤◌, true, false, cond, ◌&&◌, eqb, leb, List, [], ◌∷◌, ◌++◌, map, length, get_or, sym, refl, ap, ◌∙◌, subst, ⊎_elim, arith}
use Rattle.std.specs.List.{AllByRecursion}
use Rattle.std.proofs.ByRecursion.{All-append, All-map, All-weaker}
use Rattle.std.proofs.lemmas.List.{length-append}
use Rattle.std.proofs.lemmas.Bool.{and_from, and_parts, both_ways, cases_Bool, cases_lt, cond-true, cond-false, eqb-true, le-leb, leb-true, or_cases, or_from, or_parts}
use Rattle.base.specs.declared.values.ValueWord.{ValueWord}
use Rattle.base.specs.Words.{empty_word, first_word, within_word, has_bit, position}
use Rattle.base.proofs.WordLaws.{has_first, empty_bound, first_bound, within_from}
use Rattle.words.specs.Words.{Spelt}
use Rattle.formula.specs.declared.tables.Head.{Head}
use Rattle.formula.specs.declared.tables.Kind.TheVariants as kind
use Rattle.formula.specs.declared.tables.Variable.{Variable}
use Rattle.formula.specs.Groups.{no_variable, is_existential}
use Rattle.spelling.specs.Dqbf.{Declaration, universal, existential, variable_of, universals_of, existentials_of, member, Distinct, record_from, record_of}
use Rattle.spelling.specs.FormulaGrammar.{Groups, Depends}
use Rattle.spelling.specs.FormulaGrammar.Groups.{none, a_group, e_group, d_group}
use Rattle.spelling.proofs.PrefixLaws.{Stands, variables_of, universals_append, member_get_or, place_once}
use Rattle.audit.proofs.FormulaOwners.{PlainBy}
use Rattle.audit.proofs.FormulaPrefix.{Positions}

-- existentials as PrefixLaws has universals
existential_declared : (v : ℕ) (ds : List Declaration) → member v (variables_of ds) ≡ false → member v (existentials_of ds) ≡ false
existential_declared v [] e = refl
existential_declared v (existential u w ∷ ds) e =
    let p = or_parts (eqb u v) (member v (variables_of ds)) e in
    or_from (eqb u v) (member v (existentials_of ds)) p.0 (existential_declared v ds p.1)
existential_declared v (universal u ∷ ds) e = existential_declared v ds (or_parts (eqb u v) (member v (variables_of ds)) e).1

existentials_distinct : (ds : List Declaration) → Distinct (variables_of ds) → Distinct (existentials_of ds)
existentials_distinct [] d = tt
existentials_distinct (existential u w ∷ ds) (n, d) = (existential_declared u ds n, existentials_distinct ds d)
existentials_distinct (universal u ∷ ds) (n, d) = existentials_distinct ds d

stands_more : (us : List ℕ) (u v j n p : ℕ) → p ≡ n + 1 + j → Stands us v j → (k : ℕ) × (p ≡ n + k) × Stands (u ∷ us) v k
stands_more us u v zero n p e (a, b, c) = absurd (omega arith)
stands_more us u v (suc j) n p e (a, b, c) =
    let one : suc (suc j) - 1 ≡ suc j = omega arith in
    let less : suc j - 1 ≡ j = omega arith in
    (suc (suc j), omega arith, (omega arith, omega arith, ap (λ i. get_or (u ∷ us) i 0) one ∙ ap (λ i. get_or us i 0) (sym less) ∙ c))

record_place : (v n e : ℕ) (ds : List Declaration) → is_existential (record_from v n e ds).kind ≡ true → (k : ℕ) × ((record_from v n e ds).position ≡ e + k) × Stands (existentials_of ds) v k
record_place v n e [] h = absurd (both_ways false refl h)
record_place v n e (existential u w ∷ ds) h =
    ⊎_elim
    (λ b.
    let at : record_from v n e (existential u w ∷ ds) ≡ record { kind = kind.Existential; position = e + 1; dependencies = w } = cond-true (eqb u v) _ _ b in
    (1, ap (λ (x : Variable). x.position) at, (omega arith, omega arith, eqb-true u v b)))
    (λ b.
    let at : record_from v n e (existential u w ∷ ds) ≡ record_from v n (e + 1) ds = cond-false (eqb u v) _ _ b in
    let r = record_place v n (e + 1) ds (ap (λ (x : Variable). is_existential x.kind) (sym at) ∙ h) in
    stands_more (existentials_of ds) u v r.0 e _ (ap (λ (x : Variable). x.position) at ∙ r.1) r.2)
    (cases_Bool (eqb u v))
record_place v n e (universal u ∷ ds) h =
    ⊎_elim
    (λ b.
    let at : record_from v n e (universal u ∷ ds) ≡ record { kind = kind.Universal; position = n + 1; dependencies = empty_word } = cond-true (eqb u v) _ _ b in
    absurd (both_ways (is_existential (record_from v n e (universal u ∷ ds)).kind) (ap (λ (x : Variable). is_existential x.kind) at) h))
    (λ b.
    let at : record_from v n e (universal u ∷ ds) ≡ record_from v (n + 1) e ds = cond-false (eqb u v) _ _ b in
    let r = record_place v (n + 1) e ds (ap (λ (x : Variable). is_existential x.kind) (sym at) ∙ h) in
    (r.0, ap (λ (x : Variable). x.position) at ∙ r.1, r.2))
    (cases_Bool (eqb u v))

-- its position is where it stands among the existentials
pub existential_place : (ds : List Declaration) (v : ℕ) → is_existential (record_of ds v).kind ≡ true → Stands (existentials_of ds) v (record_of ds v).position
existential_place ds v h =
    let r = record_place v 0 0 ds h in
    let zero_left : (k : ℕ) → k ≡ 0 + k = λ k. omega arith in
    subst (Stands (existentials_of ds) v) (zero_left r.0 ∙ sym r.1) r.2

record_existential : (v n e : ℕ) (ds : List Declaration) → Distinct (variables_of ds) → member v (existentials_of ds) ≡ true → is_existential (record_from v n e ds).kind ≡ true
record_existential v n e [] d h = absurd (both_ways false refl h)
record_existential v n e (existential u w ∷ ds) (a, d) h =
    ⊎_elim
    (λ b. ap (λ (x : Variable). is_existential x.kind) (cond-true (eqb u v) _ _ b))
    (λ b.
    let there = ⊎_elim (λ t. absurd (both_ways (eqb u v) b t)) (λ t. t) (or_cases (eqb u v) (member v (existentials_of ds)) h) in
    ap (λ (x : Variable). is_existential x.kind) (cond-false (eqb u v) _ _ b) ∙ record_existential v n (e + 1) ds d there)
    (cases_Bool (eqb u v))
record_existential v n e (universal u ∷ ds) (a, d) h =
    ⊎_elim
    (λ b. absurd (both_ways (member v (existentials_of ds)) (existential_declared v ds (ap (λ x. member x (variables_of ds)) (sym (eqb-true u v b)) ∙ a)) h))
    (λ b. ap (λ (x : Variable). is_existential x.kind) (cond-false (eqb u v) _ _ b) ∙ record_existential v (n + 1) e ds d h)
    (cases_Bool (eqb u v))

-- and its position is the one place where it stands
pub place_existential : (ds : List Declaration) (v k : ℕ) → Distinct (variables_of ds) → Stands (existentials_of ds) v k → (is_existential (record_of ds v).kind ≡ true) × ((record_of ds v).position ≡ k)
place_existential ds v k d (low, high, at) =
    let us = existentials_of ds in
    let is = record_existential v 0 0 ds d (ap (λ x. member x us) (sym at) ∙ member_get_or us (k - 1) (omega arith)) in
    let (least, most, there) = existential_place ds v is in
    let same = place_once us ((record_of ds v).position - 1) (k - 1) (existentials_distinct ds d) (omega arith) (omega arith) (there ∙ sym at) in
    (is, omega arith)

-- what holds of all declared variables holds of those of a kind
pub universals_all : (P : ℕ → Type 0) (ds : List Declaration) → AllByRecursion (λ d. P (variable_of d)) ds → AllByRecursion P (universals_of ds)
universals_all P [] h = tt
universals_all P (universal v ∷ ds) (p, h) = (p, universals_all P ds h)
universals_all P (existential v w ∷ ds) (p, h) = universals_all P ds h

pub existentials_all : (P : ℕ → Type 0) (ds : List Declaration) → AllByRecursion (λ d. P (variable_of d)) ds → AllByRecursion P (existentials_of ds)
existentials_all P [] h = tt
existentials_all P (universal v ∷ ds) (p, h) = existentials_all P ds h
existentials_all P (existential v w ∷ ds) (p, h) = (p, existentials_all P ds h)

pub declared_all : (P : ℕ → Type 0) (ds : List Declaration) (v : ℕ) → AllByRecursion (λ d. P (variable_of d)) ds → member v (variables_of ds) ≡ true → P v
declared_all P [] v h m = absurd (both_ways false refl m)
declared_all P (d ∷ ds) v (p, h) m =
    ⊎_elim
    (λ e. subst P (eqb-true (variable_of d) v e) p)
    (λ e. declared_all P ds v h e)
    (or_cases (eqb (variable_of d) v) (member v (variables_of ds)) m)

-- the dependencies of a declaration are positions from 1 to n
abbrev pub Within : ℕ → Declaration → Type 0
Within n (universal v) = Unit {0}
Within n (existential v w) = Positions n w

within_more : (m n : ℕ) (d : Declaration) → m ≤ n → Within m d → Within n d
within_more m n (universal v) le h = tt
within_more m n (existential v w) le (bound, places) = (bound, λ k t. let (low, high) = places k t in (low, omega arith))

first_positions : (n : ℕ) → Positions n (first_word n)
unfolding has_bit
first_positions n = (
  first_bound n,
  λ k t.
      let p = and_parts (position k) _ t in
      let q = and_parts (leb 1 k) (leb k 64) p.0 in
      let low = leb-true 1 k q.0 in
      let high = leb-true k 64 q.1 in
      ⊎_elim
      (λ (over : 64 < n). (low, omega arith))
      (λ (few : n ≤ 64). let r = and_parts (leb 1 k) (leb k n) (sym (has_first n k few) ∙ t) in (low, leb-true k n r.1))
      (cases_lt 64 n),
)

depends_positions : (us ns : List ℕ) (w : ValueWord) → Depends us ns w → Positions (length us) w
depends_positions us ns w d = (
  d.bound,
  λ k t.
      let p = and_parts (leb 1 k && leb k (length us)) (member (get_or us (k - 1) 0) ns) (sym (d.positions k) ∙ t) in
      let q = and_parts (leb 1 k) (leb k (length us)) p.0 in
      (leb-true 1 k q.0, leb-true k (length us) q.1),
)

-- the whole prefix and some more
within_append : (ds more : List Declaration) → AllByRecursion (Within (length (universals_of ds))) ds → AllByRecursion (Within (length (universals_of ds))) more → AllByRecursion (Within (length (universals_of (ds ++ more)))) (ds ++ more)
within_append ds more h g =
    let m = length (universals_of ds) in
    let n = length (universals_of (ds ++ more)) in
    let le : m ≤ n = omega (arith, simp length-append at (ap length (universals_append ds more))) in
    All-weaker (Within m) (Within n) (λ d. within_more m n d le) (ds ++ more) (All-append (Within m) ds more h g)

all_any : {X : Type 0} (P : X → Type 0) → ((x : X) → P x) → (xs : List X) → AllByRecursion P xs
all_any P f [] = tt
all_any P f (x ∷ xs) = (f x, all_any P f xs)

pub groups_within : {prefix all : List Declaration} {ws rest : List Spelt} → Groups prefix ws all rest → AllByRecursion (Within (length (universals_of prefix))) prefix → AllByRecursion (Within (length (universals_of all))) all
groups_within none h = h
groups_within {prefix} (a_group {vs = vs} is list gs) h =
    groups_within gs (within_append prefix (map universal vs) h (All-map _ universal vs (all_any _ (λ v. tt) vs)))
groups_within {prefix} (e_group {vs = vs} is list gs) h =
    let n = length (universals_of prefix) in
    let new : ℕ → Declaration = λ v. existential v (first_word n) in
    groups_within gs (within_append prefix (map new vs) h (All-map (Within n) new vs (all_any (λ v. Within n (new v)) (λ v. first_positions n) vs)))
groups_within {prefix} (d_group v {us = us} {d = w} is at list dep gs) h =
    groups_within gs (within_append prefix (existential v w ∷ []) h (depends_positions (universals_of prefix) us w dep, tt))

-- so the records are lawful
pub empty_inside : within_word empty_word empty_word ≡ true
empty_inside = within_from empty_word empty_word empty_bound empty_bound (λ k t. t)

pub nothing_inside : within_word no_variable.dependencies empty_word ≡ true
unfolding empty_word
nothing_inside = empty_inside

first_inside : (n : ℕ) (w : ValueWord) → n ≤ 64 → Positions n w → within_word w (first_word n) ≡ true
first_inside n w few (bound, places) =
    within_from w (first_word n) bound (first_bound n)
    (λ k t. let (low, high) = places k t in has_first n k few ∙ and_from (leb 1 k) (leb k n) (le-leb 1 k low) (le-leb k n high))

pub record_plain : (h : Head) (v n e : ℕ) (ds : List Declaration) → h.universals ≤ 64 → AllByRecursion (Within h.universals) ds → PlainBy (record_from v n e ds).kind h (record_from v n e ds)
record_plain h v n e [] few g = (refl, nothing_inside)
record_plain h v n e (universal u ∷ ds) few (p, g) =
    let R : Variable = record { kind = kind.Universal; position = n + 1; dependencies = empty_word } in
    let rest = record_from v (n + 1) e ds in
    elim (eqb u v) as (λ b. PlainBy (cond b R rest).kind h (cond b R rest)) [ true ↦ empty_inside | false ↦ record_plain h v (n + 1) e ds few g ]
record_plain h v n e (existential u w ∷ ds) few (p, g) =
    let R : Variable = record { kind = kind.Existential; position = e + 1; dependencies = w } in
    let rest = record_from v n (e + 1) ds in
    elim (eqb u v) as (λ b. PlainBy (cond b R rest).kind h (cond b R rest)) [ true ↦ first_inside h.universals w few p | false ↦ record_plain h v n (e + 1) ds few g ]
