-- What the reading has declared so far is a prefix, and each step of the reading adds to both.
use Rattle.std.proofs.Common.{◌≡◌, ℕ, ◌+◌, ◌-◌, ◌<◌, ◌≤◌, true, false, not, ◌||◌, eqb, ltb, leb, List, [], ◌∷◌, ◌++◌, length, get_or, set, replicate, Ok, Err, Result, sym, refl, ap, ◌∙◌, subst, ap₂, ⊎_elim, add-zero, arith}
use Rattle.std.specs.List.{AllByRecursion}
use Rattle.std.proofs.ByRecursion.{All-push}
use Rattle.std.proofs.lemmas.List.{append-nil, get_or-replicate, get_or-set_same, get_or-set_other, length-append, length-replicate, length-set, map-append}
use Rattle.std.proofs.lemmas.Bool.{both_ways, cases_eq, cond_both, cond-false, cond-true, eqb-true, eq-eqb, lt-leb, leb-false, not-false, not_from_false, not_from_true, not-true, or_cases}
use Rattle.std.proofs.lemmas.Bool.Decides.{nat_tests}
use Rattle.base.specs.declared.values.ValueWord.{ValueWord}
use Rattle.base.specs.Causes.{Refusal}
use Rattle.base.specs.Words.{empty_word, single_word, union_word, has_bit}
use Rattle.words.specs.Due.{and_then}
use Rattle.formula.specs.declared.tables.Kind.TheVariants as kind
use Rattle.formula.specs.declared.tables.Variable.{Variable}
use Rattle.formula.specs.Groups.{Declared, no_variable, variable_at, is_undeclared, is_universal, nothing_declared, fresh, add_universal, add_existential, add_dependency, with_dependency}
use Rattle.spelling.specs.Dqbf.{Declaration, universal, existential, variable_of, universals_of, existentials_of, member, Distinct, record_from, record_of}
use Rattle.spelling.specs.FormulaGrammar.{Depends}
use Rattle.spelling.proofs.PrefixLaws.{variables_of, universals_append, existentials_append, universals_distinct, distinct_push, record_new, record_other, record_undeclared, universal_place, universal_record, Stands, LawfulPrefix, lawful_front, lawful_new, lawful_range}
use Rattle.spelling.proofs.DependsLaws.{depends_has, depends_push}

-- What is declared so far is this prefix: the counts are the prefix's, and each variable's record is the prefix's.
pub record DeclaredAs (known : ℕ) (d : Declared) (prefix : List Declaration) : Type 0 where
  pub universals : d.universals ≡ length (universals_of prefix)
  pub existentials : d.existentials ≡ length (existentials_of prefix)
  pub room : known ≤ length d.table
  pub records : (v : ℕ) → 1 ≤ v → v ≤ length d.table → get_or d.table (v - 1) no_variable ≡ record_of prefix v
  pub lawful : LawfulPrefix known prefix

pub declared_start : (known room : ℕ) → known ≤ room → DeclaredAs known (nothing_declared (replicate room no_variable)) []
declared_start known room h = record {
  universals = refl;
  existentials = refl;
  room = omega (arith, length-replicate room no_variable);
  records = λ v low high. get_or-replicate room (v - 1) no_variable no_variable (omega (arith, length-replicate room no_variable));
  lawful = record { few_universals = omega arith; few_existentials = omega arith; in_range = tt; once = tt };
}

universals_length : (xs ys : List Declaration) → length (universals_of (xs ++ ys)) ≡ length (universals_of xs) + length (universals_of ys)
universals_length xs ys = ap length (universals_append xs ys) ∙ length-append (universals_of xs) (universals_of ys)

existentials_length : (xs ys : List Declaration) → length (existentials_of (xs ++ ys)) ≡ length (existentials_of xs) + length (existentials_of ys)
existentials_length xs ys = ap length (existentials_append xs ys) ∙ length-append (existentials_of xs) (existentials_of ys)

lawful_push : (known : ℕ) (prefix : List Declaration) (decl : Declaration) → LawfulPrefix known prefix → length (universals_of prefix) + length (universals_of (decl ∷ [])) ≤ 64 → length (existentials_of prefix) + length (existentials_of (decl ∷ [])) ≤ 4096 → 1 ≤ variable_of decl → variable_of decl ≤ known → member (variable_of decl) (variables_of prefix) ≡ false → LawfulPrefix known (prefix ++ decl ∷ [])
lawful_push known prefix decl l few some low high new = record {
  few_universals = omega (arith, universals_length prefix (decl ∷ []));
  few_existentials = omega (arith, existentials_length prefix (decl ∷ []));
  in_range = All-push _ prefix decl l.in_range (low, high);
  once = subst Distinct (sym (map-append variable_of prefix (decl ∷ []))) (distinct_push (variables_of prefix) (variable_of decl) l.once new);
}

-- what is declared after one more declaration
abbrev pub universal_added : Declared → ℕ → Declared
universal_added d v = record { universals = d.universals + 1; existentials = d.existentials; table = set d.table (v - 1) (record { kind = kind.Universal; position = d.universals + 1; dependencies = empty_word }) }

abbrev pub existential_added : ValueWord → Declared → ℕ → Declared
existential_added w d v = record { universals = d.universals; existentials = d.existentials + 1; table = set d.table (v - 1) (record { kind = kind.Existential; position = d.existentials + 1; dependencies = w }) }

-- what is declared after one more dependency, on the universal at position k
abbrev pub dependency_added : Declared → ℕ → ℕ → Declared
dependency_added d v k = record { universals = d.universals; existentials = d.existentials; table = set d.table (v - 1) (with_dependency (variable_at d.table v) k) }

module _ {known : ℕ} {d : Declared} {prefix : List Declaration} (a : DeclaredAs known d prefix) where
  declared_push : (decl : Declaration) (x : Variable) (n e : ℕ) → LawfulPrefix known (prefix ++ decl ∷ []) → record_from (variable_of decl) d.universals d.existentials (decl ∷ []) ≡ x → n ≡ d.universals + length (universals_of (decl ∷ [])) → e ≡ d.existentials + length (existentials_of (decl ∷ [])) → DeclaredAs known (record { universals = n; existentials = e; table = set d.table (variable_of decl - 1) x }) (prefix ++ decl ∷ [])
  declared_push decl x n e l is en ee =
      let t = d.table in
      let v = variable_of decl in
      let range = lawful_range known prefix decl l in
      let new = lawful_new known prefix decl l in
      let long = length-set t (v - 1) x in
      let fits = a.room in
      record {
        universals = en ∙ ap (λ k. k + length (universals_of (decl ∷ []))) a.universals ∙ sym (universals_length prefix (decl ∷ []));
        existentials = ee ∙ ap (λ k. k + length (existentials_of (decl ∷ []))) a.existentials ∙ sym (existentials_length prefix (decl ∷ []));
        room = omega arith;
        records = λ u low high.
            ⊎_elim
            (λ (s : u ≡ v).
            ap (λ k. get_or (set t (v - 1) x) (k - 1) no_variable) s ∙ get_or-set_same t (v - 1) x no_variable (omega arith)
            ∙ sym is ∙ ap₂ (λ j k. record_from v j k (decl ∷ [])) a.universals a.existentials
            ∙ sym (record_new prefix (decl ∷ []) v new) ∙ ap (record_of (prefix ++ decl ∷ [])) (sym s))
            (λ (s : u ≡ v → ⊥).
            get_or-set_other t (v - 1) (u - 1) x no_variable (λ z. s (omega arith)) ∙ a.records u low (omega arith)
            ∙ sym (record_other prefix decl u s))
            (cases_eq u v);
        lawful = l;
      }

  record_at : (v : ℕ) → 1 ≤ v → v ≤ known → variable_at d.table v ≡ record_of prefix v
  record_at v low high = a.records v low (omega (arith, a.room))

  fresh_both : (v p : ℕ) (Q : Result (Unit {0}) Refusal → Type 0) → ((e : Refusal) → Q (Err e)) → (1 ≤ v → v ≤ known → member v (variables_of prefix) ≡ false → Q (Ok tt)) → Q (fresh known d.table v p)
  fresh_both v p Q bad good =
      cond_both (eqb v 0 || ltb known v) _ _ Q (λ e. bad _)
      (λ e.
      let low : 1 ≤ v = grind (arith, nat_tests) in
      let high : v ≤ known = grind (arith, nat_tests) in
      cond_both (is_undeclared (variable_at d.table v).kind) _ _ Q
      (λ u. good low high (not-true _ (sym (record_undeclared v 0 0 prefix) ∙ ap (λ (x : Variable). is_undeclared x.kind) (sym (record_at v low high)) ∙ u)))
      (λ u. bad _))

  fresh_yes : (v p : ℕ) → 1 ≤ v → v ≤ known → member v (variables_of prefix) ≡ false → fresh known d.table v p ≡ Ok tt
  fresh_yes v p low high new =
      let in_known : (eqb v 0 || ltb known v) ≡ false = grind (arith, nat_tests) in
      cond-false (eqb v 0 || ltb known v) _ _ in_known
      ∙ cond-true (is_undeclared (variable_at d.table v).kind) _ _ (ap (λ (x : Variable). is_undeclared x.kind) (record_at v low high) ∙ record_undeclared v 0 0 prefix ∙ not_from_false _ new)

  universal_declares : (v : ℕ) → LawfulPrefix known (prefix ++ universal v ∷ []) → DeclaredAs known (universal_added d v) (prefix ++ universal v ∷ [])
  universal_declares v l = declared_push (universal v) _ _ _ l (cond-true (eqb v v) _ _ (eq-eqb v v refl)) refl (sym (add-zero d.existentials))

  existential_declares : (w : ValueWord) (v : ℕ) → LawfulPrefix known (prefix ++ existential v w ∷ []) → DeclaredAs known (existential_added w d v) (prefix ++ existential v w ∷ [])
  existential_declares w v l = declared_push (existential v w) _ _ _ l (cond-true (eqb v v) _ _ (eq-eqb v v refl)) (sym (add-zero d.universals)) refl

  pub add_universal_both : (v p : ℕ) (P : Result Declared Refusal → Type 0) → ((e : Refusal) → P (Err e)) → (DeclaredAs known (universal_added d v) (prefix ++ universal v ∷ []) → P (Ok (universal_added d v))) → P (add_universal known d v p)
  add_universal_both v p P bad good =
      let f : Unit {0} → Result Declared Refusal = λ u. Ok (universal_added d v) in
      let l = a.lawful in
      let n = a.universals in
      let m = l.few_existentials in
      cond_both (leb 64 d.universals) _ _ P (λ e. bad _)
      (λ e.
      let few = leb-false 64 d.universals e in
      fresh_both v p (λ r. P (and_then r f)) bad
      (λ low high new. good (universal_declares v (lawful_push known prefix (universal v) l (omega arith) (omega arith) low high new))))

  pub add_universal_yes : (v p : ℕ) → LawfulPrefix known (prefix ++ universal v ∷ []) → (add_universal known d v p ≡ Ok (universal_added d v)) × DeclaredAs known (universal_added d v) (prefix ++ universal v ∷ [])
  add_universal_yes v p l =
      let f : Unit {0} → Result Declared Refusal = λ u. Ok (universal_added d v) in
      let n = a.universals in
      let few : d.universals < 64 = omega (arith, l.few_universals, universals_length prefix (universal v ∷ [])) in
      let range = lawful_range known prefix (universal v) l in
      let new = lawful_new known prefix (universal v) l in
      (cond-false (leb 64 d.universals) _ _ (lt-leb 64 d.universals few) ∙ ap (λ r. and_then r f) (fresh_yes v p range.0 range.1 new), universal_declares v l)

  pub add_existential_both : (w : ValueWord) (v p : ℕ) (P : Result Declared Refusal → Type 0) → ((e : Refusal) → P (Err e)) → (DeclaredAs known (existential_added w d v) (prefix ++ existential v w ∷ []) → P (Ok (existential_added w d v))) → P (add_existential known d w v p)
  add_existential_both w v p P bad good =
      let f : Unit {0} → Result Declared Refusal = λ u. Ok (existential_added w d v) in
      let l = a.lawful in
      let n = a.existentials in
      let m = l.few_universals in
      cond_both (leb 4096 d.existentials) _ _ P (λ e. bad _)
      (λ e.
      let few = leb-false 4096 d.existentials e in
      fresh_both v p (λ r. P (and_then r f)) bad
      (λ low high new. good (existential_declares w v (lawful_push known prefix (existential v w) l (omega arith) (omega arith) low high new))))

  pub add_existential_yes : (w : ValueWord) (v p : ℕ) → LawfulPrefix known (prefix ++ existential v w ∷ []) → (add_existential known d w v p ≡ Ok (existential_added w d v)) × DeclaredAs known (existential_added w d v) (prefix ++ existential v w ∷ [])
  add_existential_yes w v p l =
      let f : Unit {0} → Result Declared Refusal = λ u. Ok (existential_added w d v) in
      let n = a.existentials in
      let few : d.existentials < 4096 = omega (arith, l.few_existentials, existentials_length prefix (existential v w ∷ [])) in
      let range = lawful_range known prefix (existential v w) l in
      let new = lawful_new known prefix (existential v w) l in
      (cond-false (leb 4096 d.existentials) _ _ (lt-leb 4096 d.existentials few) ∙ ap (λ r. and_then r f) (fresh_yes v p range.0 range.1 new), existential_declares w v l)

-- a set of dependencies changes neither the universals nor what is lawful
universals_but : (prefix : List Declaration) (v : ℕ) (w : ValueWord) → universals_of (prefix ++ existential v w ∷ []) ≡ universals_of prefix
universals_but prefix v w = universals_append prefix (existential v w ∷ []) ∙ append-nil (universals_of prefix)

pub lawful_like : (known : ℕ) (prefix : List Declaration) (v : ℕ) (w x : ValueWord) → LawfulPrefix known (prefix ++ existential v w ∷ []) → LawfulPrefix known (prefix ++ existential v x ∷ [])
lawful_like known prefix v w x l =
    let range = lawful_range known prefix (existential v w) l in
    let n = l.few_universals in
    let m = l.few_existentials in
    lawful_push known prefix (existential v x) (lawful_front known prefix (existential v w ∷ []) l)
    (omega (arith, universals_length prefix (existential v w ∷ []))) (omega (arith, existentials_length prefix (existential v w ∷ [])))
    range.0 range.1 (lawful_new known prefix (existential v w) l)

in_range_universal : (known : ℕ) (ds : List Declaration) (u : ℕ) → AllByRecursion (λ d. (1 ≤ variable_of d) × (variable_of d ≤ known)) ds → member u (universals_of ds) ≡ true → (1 ≤ u) × (u ≤ known)
in_range_universal known [] u h m = absurd (both_ways false refl m)
in_range_universal known (universal v ∷ ds) u (r, h) m =
    ⊎_elim
    (λ e. let s = eqb-true v u e in let low = r.0 in let high = r.1 in (omega arith, omega arith))
    (λ e. in_range_universal known ds u h e)
    (or_cases (eqb v u) (member u (universals_of ds)) m)
in_range_universal known (existential v w ∷ ds) u (r, h) m = in_range_universal known ds u h m

-- one more dependency of the existential that was declared last
module _ {known : ℕ} {d : Declared} (prefix : List Declaration) (v : ℕ) (w : ValueWord) (a : DeclaredAs known d (prefix ++ existential v w ∷ [])) where
  abbrev last : List Declaration
  last = prefix ++ existential v w ∷ []

  last_record : (x : ValueWord) → LawfulPrefix known (prefix ++ existential v x ∷ []) → record_of (prefix ++ existential v x ∷ []) v ≡ record { kind = kind.Existential; position = length (existentials_of prefix) + 1; dependencies = x }
  last_record x l =
      record_new prefix (existential v x ∷ []) v (lawful_new known prefix (existential v x) l) ∙ cond-true (eqb v v) _ _ (eq-eqb v v refl)

  record_now : variable_at d.table v ≡ record { kind = kind.Existential; position = length (existentials_of prefix) + 1; dependencies = w }
  record_now =
      let range = lawful_range known prefix (existential v w) a.lawful in
      record_at a v range.0 range.1 ∙ last_record w a.lawful

  dependency_declares : (k : ℕ) → DeclaredAs known (dependency_added d v k) (prefix ++ existential v (union_word w (single_word k)) ∷ [])
  dependency_declares k =
      let t = d.table in
      let x = union_word w (single_word k) in
      let y = with_dependency (variable_at t v) k in
      let l = lawful_like known prefix v w x a.lawful in
      let range = lawful_range known prefix (existential v w) a.lawful in
      let long = length-set t (v - 1) y in
      let fits = a.room in
      record {
        universals = a.universals ∙ ap length (universals_but prefix v w ∙ sym (universals_but prefix v x));
        existentials = a.existentials ∙ existentials_length prefix (existential v w ∷ []) ∙ sym (existentials_length prefix (existential v x ∷ []));
        room = omega arith;
        records = λ u low high.
            ⊎_elim
            (λ (s : u ≡ v).
            ap (λ j. get_or (set t (v - 1) y) (j - 1) no_variable) s ∙ get_or-set_same t (v - 1) y no_variable (omega arith)
            ∙ ap (λ r. with_dependency r k) record_now ∙ sym (last_record x l) ∙ ap (record_of (prefix ++ existential v x ∷ [])) (sym s))
            (λ (s : u ≡ v → ⊥).
            get_or-set_other t (v - 1) (u - 1) y no_variable (λ z. s (omega arith)) ∙ a.records u low (omega arith)
            ∙ record_other prefix (existential v w) u s ∙ sym (record_other prefix (existential v x) u s))
            (cases_eq u v);
        lawful = l;
      }

  has_now : (k : ℕ) → has_bit (variable_at d.table v).dependencies k ≡ has_bit w k
  has_now k = ap (λ (r : Variable). has_bit r.dependencies k) record_now

  -- the place of a universal among those of the prefix
  place_now : (u : ℕ) → 1 ≤ u → u ≤ known → is_universal (variable_at d.table u).kind ≡ true → Stands (universals_of prefix) u (variable_at d.table u).position
  place_now u low high is =
      let at = record_at a u low high in
      let s = universal_place last u (ap (λ (r : Variable). is_universal r.kind) (sym at) ∙ is) in
      let S : List ℕ → ℕ → Type 0 = λ us k. Stands us u k in
      subst (S (universals_of prefix)) (ap (λ (r : Variable). r.position) (sym at)) (subst (λ us. S us (record_of last u).position) (universals_but prefix v w) s)

  few_now : length (universals_of prefix) ≤ 64
  few_now = omega (arith, a.lawful.few_universals, ap length (universals_but prefix v w))

  apart_now : Distinct (universals_of prefix)
  apart_now = universals_distinct prefix (lawful_front known prefix (existential v w ∷ []) a.lawful).once

  pub add_dependency_both : (read : List ℕ) (u p : ℕ) → Depends (universals_of prefix) read w → (P : Result Declared Refusal → Type 0) → ((e : Refusal) → P (Err e)) → ((k : ℕ) → DeclaredAs known (dependency_added d v k) (prefix ++ existential v (union_word w (single_word k)) ∷ []) → Depends (universals_of prefix) (read ++ u ∷ []) (union_word w (single_word k)) → P (Ok (dependency_added d v k))) → P (add_dependency known d v u p)
  add_dependency_both read u p h P bad good =
      let r = variable_at d.table u in
      let k = r.position in
      cond_both (eqb u 0 || ltb known u) _ _ P (λ e. bad _)
      (λ e.
      let low : 1 ≤ u = grind (arith, nat_tests) in
      let high : u ≤ known = grind (arith, nat_tests) in
      cond_both (not (is_universal r.kind)) _ _ P (λ n. bad _)
      (λ n.
      let s = place_now u low high (not-false (is_universal r.kind) n) in
      cond_both (has_bit (variable_at d.table v).dependencies k) _ _ P (λ b. bad _)
      (λ b. good k (dependency_declares k) (depends_push (universals_of prefix) read w u k few_now apart_now h s (sym (depends_has (universals_of prefix) read w u k h s) ∙ sym (has_now k) ∙ b)))))

  pub add_dependency_yes : (read : List ℕ) (u p : ℕ) → Depends (universals_of prefix) read w → member u (universals_of prefix) ≡ true → member u read ≡ false → (k : ℕ) × (add_dependency known d v u p ≡ Ok (dependency_added d v k)) × DeclaredAs known (dependency_added d v k) (prefix ++ existential v (union_word w (single_word k)) ∷ []) × Depends (universals_of prefix) (read ++ u ∷ []) (union_word w (single_word k))
  add_dependency_yes read u p h m new =
      let r = variable_at d.table u in
      let k = r.position in
      let there : member u (universals_of last) ≡ true = ap (member u) (universals_but prefix v w) ∙ m in
      let range = in_range_universal known last u a.lawful.in_range there in
      let low = range.0 in
      let high = range.1 in
      let is : is_universal r.kind ≡ true = ap (λ (x : Variable). is_universal x.kind) (record_at a u low high) ∙ universal_record last u a.lawful.once there in
      let s = place_now u low high is in
      let in_known : (eqb u 0 || ltb known u) ≡ false = grind (arith, nat_tests) in (
        k,
        cond-false (eqb u 0 || ltb known u) _ _ in_known
            ∙ cond-false (not (is_universal r.kind)) _ _ (not_from_true _ is)
            ∙ cond-false (has_bit (variable_at d.table v).dependencies k) _ _ (has_now k ∙ depends_has (universals_of prefix) read w u k h s ∙ new),
        dependency_declares k,
        depends_push (universals_of prefix) read w u k few_now apart_now h s new,
      )
