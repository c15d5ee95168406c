-- The owners of positions, as the audit enters them record by record.
use Rattle.std.proofs.Common.{◌≡◌, ℕ, suc, ◌+◌, ◌<◌, ◌≤◌, Bool, true, false, ◌&&◌, eqb, leb, ◌⊎◌, List, [], ◌∷◌, length, get_or, set, replicate, Some, None, Option, sym, refl, ap, ◌∙◌, subst, inl, inr, ⊎_elim, add-zero, arith}
use Rattle.std.specs.Option.{option_and_then}
use Rattle.std.proofs.lemmas.List.{get_or-set_same, get_or-set_other, length-replicate, length-set}
use Rattle.std.proofs.lemmas.Option.{cond_some, none-some, same_Some}
use Rattle.std.proofs.lemmas.Bool.{both_ways, cases_eq, and_parts, leb-true, eqb-true}
use Rattle.base.specs.Words.{empty_word, first_word, within_word}
use Rattle.formula.specs.declared.tables.Head.{Head}
use Rattle.formula.specs.declared.tables.Kind.{Kind}
use Rattle.formula.specs.declared.tables.Kind.TheVariants as kind
use Rattle.formula.specs.declared.tables.Variable.{Variable}
use Rattle.formula.specs.Groups.{no_variable, is_universal}
use Rattle.formula.specs.Groups.{is_existential}
use Rattle.audit.specs.declared.formulas.Owners.{Owners}
use Rattle.audit.specs.FormulaAudit.{owners, free, owns, owns_by, records_own}
use Rattle.words.proofs.TableLaws.{get_or_zeros}

-- w is a variable below v of a kind, and has position k
abbrev pub Owner : (Kind → Bool) → (ℕ → Variable) → ℕ → ℕ → ℕ → Type 0
Owner of r v k w = (1 ≤ w) × (w < v) × (of (r w).kind ≡ true) × ((r w).position ≡ k)

-- w is entered at position k, from 1 to n
abbrev pub Entered : ℕ → List ℕ → ℕ → ℕ → Type 0
Entered n os w k = (1 ≤ k) × (k ≤ n) × (get_or os k 0 ≡ w)

-- The variables below v of a kind are entered at their positions, and nothing else is.
pub record Table (of : Kind → Bool) (r : ℕ → Variable) (n v : ℕ) (os : List ℕ) : Type 0 where
  pub from : (k : ℕ) → (get_or os k 0 ≡ 0) ⊎ Owner of r v k (get_or os k 0)
  pub to : (w : ℕ) → 1 ≤ w → w < v → of (r w).kind ≡ true → Entered n os w (r w).position

pub table_start : (of : Kind → Bool) (r : ℕ → Variable) (n m : ℕ) → Table of r n 1 (replicate m 0)
table_start of r n m = record { from = λ k. inl (get_or_zeros {X = ℕ} 0 m k); to = λ w low high is. absurd (omega arith) }

module _ (of : Kind → Bool) (r : ℕ → Variable) (n v : ℕ) (os : List ℕ) (t : Table of r n v os) where
  owner_more : (k w : ℕ) → (w ≡ 0) ⊎ Owner of r v k w → (w ≡ 0) ⊎ Owner of r (v + 1) k w
  owner_more k w (inl e) = inl e
  owner_more k w (inr (low, high, is, at)) = inr (low, omega arith, is, at)

  -- a variable of another kind
  pub table_skip : of (r v).kind ≡ false → Table of r n (v + 1) os
  table_skip other =
      record {
        from = λ k. owner_more k (get_or os k 0) (t.from k);
        to = λ w low high is.
            ⊎_elim
            (λ e. absurd (both_ways (of (r v).kind) other (ap (λ (x : ℕ). of (r x).kind) (sym e) ∙ is)))
            (λ ne. t.to w low (omega arith) is)
            (cases_eq w v);
      }

  -- a variable of the kind, at a position that is free
  pub table_add : 1 ≤ v → of (r v).kind ≡ true → n < length os → free n os (r v).position ≡ true → Table of r n (v + 1) (set os (r v).position v)
  table_add some same long is_free =
      let p = (r v).position in
      let new = set os p v in
      let a = and_parts (leb 1 p && leb p n) (eqb (get_or os p 0) 0) is_free in
      let b = and_parts (leb 1 p) (leb p n) a.0 in
      let low = leb-true 1 p b.0 in
      let high = leb-true p n b.1 in
      let empty = eqb-true (get_or os p 0) 0 a.1 in
      let at : get_or new p 0 ≡ v = get_or-set_same os p v 0 (omega arith) in
      record {
        from = λ k.
            ⊎_elim
            (λ e.
            let here : get_or new k 0 ≡ v = ap (λ i. get_or new i 0) e ∙ at in
            subst (λ (w : ℕ). (w ≡ 0) ⊎ Owner of r (v + 1) k w) (sym here) (inr (some, omega arith, same, sym e)))
            (λ ne. subst (λ (w : ℕ). (w ≡ 0) ⊎ Owner of r (v + 1) k w) (sym (get_or-set_other os p k v 0 ne)) (owner_more k (get_or os k 0) (t.from k)))
            (cases_eq k p);
        to = λ w above below is.
            ⊎_elim
            (λ e. subst (λ (x : ℕ). Entered n new x (r x).position) (sym e) (low, high, at))
            (λ ne.
            let (least, most, there) = t.to w above (omega arith) is in
            let apart : (r w).position ≡ p → ⊥ = λ e. let z : w ≡ 0 = sym there ∙ ap (λ i. get_or os i 0) e ∙ empty in omega arith in
            (least, most, get_or-set_other os p (r w).position v 0 apart ∙ there))
            (cases_eq w v);
      }

-- what else a record of each kind has to be
abbrev pub PlainBy : Kind → Head → Variable → Type 0
PlainBy kind.Undeclared h x = (x.position ≡ 0) × (within_word x.dependencies empty_word ≡ true)
PlainBy kind.Universal h x = within_word x.dependencies empty_word ≡ true
PlainBy kind.Existential h x = within_word x.dependencies (first_word h.universals) ≡ true

abbrev pub Plain : Head → Variable → Type 0
Plain h x = PlainBy x.kind h x

-- The variables below v have lawful records, and are entered.
pub record Owned (h : Head) (r : ℕ → Variable) (v : ℕ) (o : Owners) : Type 0 where
  pub universals : Table is_universal r h.universals v o.universals
  pub existentials : Table is_existential r h.existentials v o.existentials
  pub plain : (w : ℕ) → 1 ≤ w → w < v → Plain h (r w)
  pub universals_long : h.universals < length o.universals
  pub existentials_long : h.existentials < length o.existentials

pub owned_start : (h : Head) (r : ℕ → Variable) → h.universals ≤ 64 → h.existentials ≤ 4096 → Owned h r 1 (owners (replicate 65 0) (replicate 4097 0))
owned_start h r few_universals few_existentials =
    record {
      universals = table_start is_universal r h.universals 65;
      existentials = table_start is_existential r h.existentials 4097;
      plain = λ w low high. absurd (omega arith);
      universals_long = omega (arith, length-replicate {A = ℕ} 65 0);
      existentials_long = omega (arith, length-replicate {A = ℕ} 4097 0);
    }

pub some_cases : {X Y : Type 0} (m : Option X) (f : X → Option Y) (y : Y) → option_and_then f m ≡ Some y → (x : X) × (m ≡ Some x) × (f x ≡ Some y)
some_cases None f y e = absurd (none-some y e)
some_cases (Some x) f y e = (x, refl, e)

-- one more record
module _ (h : Head) (r : ℕ → Variable) (v : ℕ) (o o' : Owners) (some : 1 ≤ v) (w : Owned h r v o) where
  plain_more : Plain h (r v) → (x : ℕ) → 1 ≤ x → x < v + 1 → Plain h (r x)
  plain_more p x low high =
      ⊎_elim
      (λ e. subst (λ (y : ℕ). Plain h (r y)) (sym e) p)
      (λ ne. w.plain x low (omega arith))
      (cases_eq x v)

  step_by : (κ : Kind) → (r v).kind ≡ κ → owns_by κ h v (r v) o ≡ Some o' → Owned h r (v + 1) o'
  step_by kind.Undeclared is e =
      let (t, same) = cond_some (eqb (r v).position 0 && within_word (r v).dependencies empty_word) o o' e in
      let a = and_parts (eqb (r v).position 0) (within_word (r v).dependencies empty_word) t in
      subst (Owned h r (v + 1)) same
      (record {
        universals = table_skip is_universal r h.universals v o.universals w.universals (ap is_universal is);
        existentials = table_skip is_existential r h.existentials v o.existentials w.existentials (ap is_existential is);
        plain = plain_more (subst (λ (k : Kind). PlainBy k h (r v)) (sym is) (eqb-true (r v).position 0 a.0, a.1));
        universals_long = w.universals_long;
        existentials_long = w.existentials_long;
      })
  step_by kind.Universal is e =
      let us = o.universals in
      let (t, same) = cond_some (free h.universals us (r v).position && within_word (r v).dependencies empty_word) (owners (set us (r v).position v) o.existentials) o' e in
      let a = and_parts (free h.universals us (r v).position) (within_word (r v).dependencies empty_word) t in
      subst (Owned h r (v + 1)) same
      (record {
        universals = table_add is_universal r h.universals v us w.universals some (ap is_universal is) w.universals_long a.0;
        existentials = table_skip is_existential r h.existentials v o.existentials w.existentials (ap is_existential is);
        plain = plain_more (subst (λ (k : Kind). PlainBy k h (r v)) (sym is) a.1);
        universals_long = omega (arith, w.universals_long, length-set us (r v).position v);
        existentials_long = w.existentials_long;
      })
  step_by kind.Existential is e =
      let es = o.existentials in
      let (t, same) = cond_some (free h.existentials es (r v).position && within_word (r v).dependencies (first_word h.universals)) (owners o.universals (set es (r v).position v)) o' e in
      let a = and_parts (free h.existentials es (r v).position) (within_word (r v).dependencies (first_word h.universals)) t in
      subst (Owned h r (v + 1)) same
      (record {
        universals = table_skip is_universal r h.universals v o.universals w.universals (ap is_universal is);
        existentials = table_add is_existential r h.existentials v es w.existentials some (ap is_existential is) w.existentials_long a.0;
        plain = plain_more (subst (λ (k : Kind). PlainBy k h (r v)) (sym is) a.1);
        universals_long = w.universals_long;
        existentials_long = omega (arith, w.existentials_long, length-set es (r v).position v);
      })

  pub owned_more : owns h v (r v) o ≡ Some o' → Owned h r (v + 1) o'
  owned_more e = step_by (r v).kind refl e

-- these are the records of the variables from v on
abbrev pub Says : (ℕ → Variable) → ℕ → List Variable → Type 0
Says r v xs = (j : ℕ) → j < length xs → get_or xs j no_variable ≡ r (v + j)

says_first : (r : ℕ → Variable) (v : ℕ) (x : Variable) (xs : List Variable) → Says r v (x ∷ xs) → x ≡ r v
says_first r v x xs says = says 0 (omega arith) ∙ ap r (add-zero v)

says_rest : (r : ℕ → Variable) (v : ℕ) (x : Variable) (xs : List Variable) → Says r v (x ∷ xs) → Says r (v + 1) xs
says_rest r v x xs says j h = let shift : v + suc j ≡ v + 1 + j = omega arith in says (suc j) (omega arith) ∙ ap r shift

-- all records
pub owned_all : (h : Head) (r : ℕ → Variable) (v : ℕ) (xs : List Variable) (o o' : Owners) → Says r v xs → 1 ≤ v → Owned h r v o → records_own h v xs o ≡ Some o' → Owned h r (v + length xs) o'
owned_all h r v [] o o' says some w e =
    subst (λ (k : ℕ). Owned h r k o') (sym (add-zero v)) (subst (Owned h r v) (same_Some o o' e) w)
owned_all h r v (x ∷ xs) o o' says some w e =
    let (q, first, rest) = some_cases (owns h v x o) (λ p. records_own h (v + 1) xs p) o' e in
    let is = says_first r v x xs says in
    let next = owned_more h r v o q some w (ap (λ (y : Variable). owns h v y o) (sym is) ∙ first) in
    let shift : v + 1 + length xs ≡ v + suc (length xs) = omega arith in
    subst (λ (k : ℕ). Owned h r k o') shift (owned_all h r (v + 1) xs q o' (says_rest r v x xs says) (omega arith) next rest)

-- records that can be entered one after the other
pub own_all : (h : Head) (r : ℕ → Variable) (v : ℕ) (xs : List Variable) (o : Owners) → Says r v xs → 1 ≤ v → Owned h r v o → ((w : ℕ) (p : Owners) → 1 ≤ w → w < v + length xs → Owned h r w p → (p' : Owners) × (owns h w (r w) p ≡ Some p')) → (o' : Owners) × (records_own h v xs o ≡ Some o')
own_all h r v [] o says some w next = (o, refl)
own_all h r v (x ∷ xs) o says some w next =
    let is = says_first r v x xs says in
    let (q, e) = next v o some (omega arith) w in
    let (o', rest) = own_all h r (v + 1) xs q (says_rest r v x xs says) (omega arith) (owned_more h r v o q some w e) (λ u p low high. next u p low (omega arith)) in
    (o', ap (λ (m : Option Owners). option_and_then (λ p. records_own h (v + 1) xs p) m) (ap (λ (y : Variable). owns h v y o) is ∙ e) ∙ rest)
