-- The reading of the groups accepts exactly the words of the grammar, and what it has declared is their prefix.
use Rattle.std.proofs.Common.{◌≡◌, ℕ, zero, suc, ◌<◌, ◌≤◌, true, false, cond, eqb, ◌⊎◌, List, [], ◌∷◌, ◌++◌, map, length, get_or, Ok, Err, codes, Result, sym, refl, ap, ◌∙◌, subst, inl, inr, ⊎_elim, arith}
use Rattle.std.specs.List.{AllByRecursion}
use Rattle.std.proofs.lemmas.List.{append-nil, append_assoc, length-append, length-set}
use Rattle.std.proofs.lemmas.Bool.{cases_Bool, cond_both, cond-false, eqb-false, eqb-true, ne_eqb}
use Rattle.base.specs.declared.values.ValueWord.{ValueWord}
use Rattle.base.specs.Causes.{Refusal}
use Rattle.base.specs.Words.{empty_word, first_word, single_word, union_word}
use Rattle.words.specs.Words.{Spelt, letter, number, other, start_of, end_of}
use Rattle.words.specs.Due.{Got, and_then, number_in}
use Rattle.formula.specs.Groups.{Declared, Where, outside, dependent, dependencies, inside, on_group, group_in, groups_from, add_universal, add_existential, add_dependency}
use Rattle.spelling.specs.Dqbf.{Declaration, universal, existential, universals_of, member, Distinct}
use Rattle.spelling.specs.FormulaGrammar.{Name, Number, Listing, Depends, Groups, Stops}
use Rattle.spelling.specs.FormulaGrammar.Listing.{ends, goes}
use Rattle.spelling.specs.FormulaGrammar.Groups.{none, a_group, e_group, d_group}
use Rattle.spelling.specs.FormulaLaw.{Behind}
use Rattle.spelling.proofs.PrefixLaws.{LawfulPrefix, lawful_front, distinct_next}
use Rattle.spelling.proofs.DependsLaws.{depends_none, depends_same}
use Rattle.spelling.proofs.DeclaredLaws.{DeclaredAs, universal_added, existential_added, dependency_added, add_universal_both, add_universal_yes, add_existential_both, add_existential_yes, add_dependency_both, add_dependency_yes, lawful_like}

-- inside an `a` group and inside an `e` group
abbrev in_a : Where
in_a = on_group (group_in (codes "a")) outside inside

abbrev in_e : Where
in_e = on_group (group_in (codes "e")) outside inside

-- the number that a word is
number_both : {Y : Type 0} (w : Spelt) (f : ℕ → Result Y Refusal) (P : Result Y Refusal → Type 0) → ((e : Refusal) → P (Err e)) → ((n : ℕ) → Number w n → P (f n)) → P (and_then (number_in w) f)
number_both (letter bs p) f P bad good = bad _
number_both (number bs p m) f P bad good =
    cond_both m.negative _ _ (λ r. P (and_then r f)) (λ e. bad _) (λ e. good m.value (e, refl))
number_both (other bs p) f P bad good = bad _

number_yes : (w : Spelt) (n : ℕ) → Number w n → number_in w ≡ Ok n
number_yes (letter bs p) n h = absurd h
number_yes (number bs p m) n (s, v) = cond-false m.negative _ _ s ∙ ap Ok v
number_yes (other bs p) n h = absurd h

number_then : {Y : Type 0} (w : Spelt) (n : ℕ) (f : ℕ → Result Y Refusal) → Number w n → and_then (number_in w) f ≡ f n
number_then w n f h = ap (λ r. and_then r f) (number_yes w n h)

-- a name of one letter
one_letter : (bs : List ℕ) (c : ℕ) → (length bs ≡ 1 → ⊥) → bs ≡ c ∷ [] → ⊥
one_letter bs c h e = h (ap length e)

letter_is : (b c : ℕ) → eqb b c ≡ false → b ∷ [] ≡ c ∷ [] → ⊥
letter_is b c f e = eqb-false b c f (ap (λ l. get_or l 0 0) e)

module _ (known size : ℕ) where
  abbrev reads : Where → Declared → List Spelt → ℕ → Got Declared
  reads m d ws q = groups_from known m d ws q size

  begun_a : (d : Declared) (w : Spelt) (ws : List Spelt) (q : ℕ) → Name w (codes "a") → reads outside d (w ∷ ws) q ≡ reads in_a d ws (end_of w)
  begun_a d (letter bs p) ws q h = ap (λ l. on_group (group_in l) (Ok (d, letter bs p ∷ ws, q)) (λ g. reads (inside g) d ws (end_of (letter bs p)))) h
  begun_a d (number bs p n) ws q h = absurd h
  begun_a d (other bs p) ws q h = absurd h

  begun_e : (d : Declared) (w : Spelt) (ws : List Spelt) (q : ℕ) → Name w (codes "e") → reads outside d (w ∷ ws) q ≡ reads in_e d ws (end_of w)
  begun_e d (letter bs p) ws q h = ap (λ l. on_group (group_in l) (Ok (d, letter bs p ∷ ws, q)) (λ g. reads (inside g) d ws (end_of (letter bs p)))) h
  begun_e d (number bs p n) ws q h = absurd h
  begun_e d (other bs p) ws q h = absurd h

  begun_d : (d : Declared) (w : Spelt) (ws : List Spelt) (q : ℕ) → Name w (codes "d") → reads outside d (w ∷ ws) q ≡ reads dependent d ws (end_of w)
  begun_d d (letter bs p) ws q h = ap (λ l. on_group (group_in l) (Ok (d, letter bs p ∷ ws, q)) (λ g. reads (inside g) d ws (end_of (letter bs p)))) h
  begun_d d (number bs p n) ws q h = absurd h
  begun_d d (other bs p) ws q h = absurd h

  -- a word that begins a group, or none
  begun_both : (d : Declared) (w : Spelt) (ws : List Spelt) (q : ℕ) (P : Got Declared → Type 0) → (Name w (codes "a") → P (reads in_a d ws (end_of w))) → (Name w (codes "e") → P (reads in_e d ws (end_of w))) → (Name w (codes "d") → P (reads dependent d ws (end_of w))) → (Stops (w ∷ ws) → P (Ok (d, w ∷ ws, q))) → P (reads outside d (w ∷ ws) q)
  begun_both d (letter [] p) ws q P a e dd n = n (one_letter [] 97 (λ h. omega arith), one_letter [] 101 (λ h. omega arith), one_letter [] 100 (λ h. omega arith))
  begun_both d (letter (b ∷ []) p) ws q P a e dd n =
      let w = letter (b ∷ []) p in
      ⊎_elim
      (λ t. let h = ap (λ x. x ∷ []) (eqb-true b 97 t) in subst P (sym (begun_a d w ws q h)) (a h))
      (λ fa.
      ⊎_elim
      (λ t. let h = ap (λ x. x ∷ []) (eqb-true b 101 t) in subst P (sym (begun_e d w ws q h)) (e h))
      (λ fe.
      ⊎_elim
      (λ t. let h = ap (λ x. x ∷ []) (eqb-true b 100 t) in subst P (sym (begun_d d w ws q h)) (dd h))
      (λ fd.
      subst P (sym (ap (λ o. on_group o (Ok (d, w ∷ ws, q)) (λ g. reads (inside g) d ws (end_of w)))
      (cond-false (eqb b 97) _ _ fa ∙ cond-false (eqb b 101) _ _ fe ∙ cond-false (eqb b 100) _ _ fd)))
      (n (letter_is b 97 fa, letter_is b 101 fe, letter_is b 100 fd)))
      (cases_Bool (eqb b 100)))
      (cases_Bool (eqb b 101)))
      (cases_Bool (eqb b 97))
  begun_both d (letter (b ∷ c ∷ bs) p) ws q P a e dd n =
      let w = letter (b ∷ c ∷ bs) p in
      let long : length (b ∷ c ∷ bs) ≡ 1 → ⊥ = λ h. omega arith in
      subst P (sym (ap (λ o. on_group o (Ok (d, w ∷ ws, q)) (λ g. reads (inside g) d ws (end_of w))) (cond-false (eqb (length (b ∷ c ∷ bs)) 1) _ _ (ne_eqb _ 1 long))))
      (n (one_letter (b ∷ c ∷ bs) 97 long, one_letter (b ∷ c ∷ bs) 101 long, one_letter (b ∷ c ∷ bs) 100 long))
  begun_both d (number bs p m) ws q P a e dd n = n (λ h. h, λ h. h, λ h. h)
  begun_both d (other bs p) ws q P a e dd n = n (λ h. h, λ h. h, λ h. h)

-- the place behind words that were read
behind_more : (w : Spelt) (ws rest : List Spelt) (q : ℕ) → Behind ws rest q → Behind (w ∷ ws) rest q
behind_more w ws rest q (read, x, e, at) = (w ∷ read, x, ap (λ l. w ∷ l) e, at)

behind_shorter : (ws rest : List Spelt) (q : ℕ) → Behind ws rest q → length rest < length ws
behind_shorter ws rest q (read, x, e, at) = omega (arith, ap length e, length-append read (x ∷ rest))

behind_then : (ws mid rest : List Spelt) (p q : ℕ) → Behind ws mid p → ((rest ≡ mid) × (q ≡ p)) ⊎ Behind mid rest q → Behind ws rest q
behind_then ws mid rest p q (read, x, e, at) (inl (s, t)) = (read, x, e ∙ ap (λ l. read ++ x ∷ l) (sym s), t ∙ at)
behind_then ws mid rest p q (read, x, e, at) (inr (more, y, f, to)) =
    (read ++ x ∷ more, y, e ∙ ap (λ l. read ++ x ∷ l) f ∙ sym (append_assoc read (x ∷ more) (y ∷ rest)), to)

-- A list of variables under a quantifier: each of them is declared by `decl`.
module _ (known size : ℕ) (mode : Where) (decl : ℕ → Declaration) (add : Declared → ℕ → ℕ → Result Declared Refusal) (added : Declared → ℕ → Declared) (Fit : Declared → Type 0) (nil : (d : Declared) (q : ℕ) → (e : Refusal) × (groups_from known mode d [] q size ≡ Err e)) (more : (d : Declared) (w : Spelt) (ws : List Spelt) (q : ℕ) → groups_from known mode d (w ∷ ws) q size ≡ and_then (number_in w) (λ v. cond (eqb v 0) (groups_from known outside d ws (end_of w) size) (and_then (add d v (start_of w)) (λ d'. groups_from known mode d' ws (end_of w) size)))) (fit : (d : Declared) (v : ℕ) → Fit d → Fit (added d v)) (long : (d : Declared) (v : ℕ) → length (added d v).table ≡ length d.table) (both : (d : Declared) (prefix : List Declaration) → DeclaredAs known d prefix → Fit d → (v p : ℕ) (P : Result Declared Refusal → Type 0) → ((e : Refusal) → P (Err e)) → (DeclaredAs known (added d v) (prefix ++ decl v ∷ []) → P (Ok (added d v))) → P (add d v p)) (yes : (d : Declared) (prefix : List Declaration) → DeclaredAs known d prefix → Fit d → (v p : ℕ) → LawfulPrefix known (prefix ++ decl v ∷ []) → (add d v p ≡ Ok (added d v)) × DeclaredAs known (added d v) (prefix ++ decl v ∷ [])) where
  through_listing : (d : Declared) (prefix : List Declaration) (ws : List Spelt) (q : ℕ) → DeclaredAs known d prefix → Fit d → (P : Got Declared → Type 0) → ((e : Refusal) → P (Err e)) → ((vs : List ℕ) (mid : List Spelt) (d' : Declared) (q' : ℕ) → Listing ws vs mid → DeclaredAs known d' (prefix ++ map decl vs) → length d'.table ≡ length d.table → Behind ws mid q' → P (reads known size outside d' mid q')) → P (reads known size mode d ws q)
  through_listing d prefix [] q a c P bad good = subst P (sym (nil d q).1) (bad _)
  through_listing d prefix (w ∷ ws) q a c P bad good =
      subst P (sym (more d w ws q))
      (number_both w _ P bad
      (λ v is.
      cond_both (eqb v 0) _ _ P
      (λ z. good [] ws d (end_of w) (ends (subst (λ n. Number w n) (eqb-true v 0 z) is)) (subst (DeclaredAs known d) (sym (append-nil prefix)) a) refl ([], w, refl, refl))
      (λ z.
      let some : 0 < v = let apart = eqb-false v 0 z in omega arith in
      both d prefix a c v (start_of w) (λ r. P (and_then r (λ d'. reads known size mode d' ws (end_of w)))) bad
      (λ b.
      through_listing (added d v) (prefix ++ decl v ∷ []) ws (end_of w) b (fit d v c) P bad
      (λ vs mid d' q' l a' s behind.
      good (v ∷ vs) mid d' q' (goes is some l) (subst (DeclaredAs known d') (append_assoc prefix (decl v ∷ []) (map decl vs)) a') (s ∙ long d v) (behind_more w ws mid q' behind))))))

  -- one variable of the list
  listed_yes : (d : Declared) (w : Spelt) (ws : List Spelt) (q n : ℕ) → Number w n → 0 < n → add d n (start_of w) ≡ Ok (added d n) → reads known size mode d (w ∷ ws) q ≡ reads known size mode (added d n) ws (end_of w)
  listed_yes d w ws q n is some e =
      more d w ws q ∙ number_then w n _ is ∙ cond-false (eqb n 0) _ _ (ne_eqb n 0 (λ z. omega arith))
      ∙ ap (λ x. and_then x (λ d'. reads known size mode d' ws (end_of w))) e

  listing_yes : {ws mid : List Spelt} {vs : List ℕ} → Listing ws vs mid → (d : Declared) (prefix : List Declaration) (q : ℕ) → DeclaredAs known d prefix → Fit d → LawfulPrefix known (prefix ++ map decl vs) → (d' : Declared) × (q' : ℕ) × (reads known size mode d ws q ≡ reads known size outside d' mid q') × DeclaredAs known d' (prefix ++ map decl vs)
  listing_yes (ends {w} {ws} is) d prefix q a c l =
      (d, end_of w, more d w ws q ∙ number_then w 0 _ is, subst (DeclaredAs known d) (sym (append-nil prefix)) a)
  listing_yes (goes {w} {ws} {rest} {n} {ns} is some list) d prefix q a c l =
      let together = append_assoc prefix (decl n ∷ []) (map decl ns) in
      let law = subst (LawfulPrefix known) (sym together) l in
      let s = yes d prefix a c n (start_of w) (lawful_front known (prefix ++ decl n ∷ []) (map decl ns) law) in
      let (d', q', e, b) = listing_yes list (added d n) (prefix ++ decl n ∷ []) (end_of w) s.1 (fit d n c) law in
      (d', q', listed_yes d w ws q n is some s.0 ∙ e, subst (DeclaredAs known d') together b)

-- the dependencies of the existential that was declared last
module _ (known size : ℕ) (prefix : List Declaration) (v : ℕ) where
  through_dependencies : (d : Declared) (x : ValueWord) (read : List ℕ) (ws : List Spelt) (q : ℕ) → DeclaredAs known d (prefix ++ existential v x ∷ []) → Depends (universals_of prefix) read x → (P : Got Declared → Type 0) → ((e : Refusal) → P (Err e)) → ((us : List ℕ) (mid : List Spelt) (d' : Declared) (y : ValueWord) (q' : ℕ) → Listing ws us mid → DeclaredAs known d' (prefix ++ existential v y ∷ []) → Depends (universals_of prefix) (read ++ us) y → length d'.table ≡ length d.table → Behind ws mid q' → P (reads known size outside d' mid q')) → P (reads known size (dependencies v) d ws q)
  through_dependencies d x read [] q a h P bad good = bad _
  through_dependencies d x read (w ∷ ws) q a h P bad good =
      number_both w _ P bad
      (λ u is.
      cond_both (eqb u 0) _ _ P
      (λ z. good [] ws d x (end_of w) (ends (subst (λ n. Number w n) (eqb-true u 0 z) is)) a (subst (λ l. Depends (universals_of prefix) l x) (sym (append-nil read)) h) refl ([], w, refl, refl))
      (λ z.
      let some : 0 < u = let apart = eqb-false u 0 z in omega arith in
      add_dependency_both prefix v x a read u (start_of w) h (λ r. P (and_then r (λ d'. reads known size (dependencies v) d' ws (end_of w)))) bad
      (λ k b h'.
      through_dependencies (dependency_added d v k) (union_word x (single_word k)) (read ++ u ∷ []) ws (end_of w) b h' P bad
      (λ us mid d' y q' l a' dep s behind.
      good (u ∷ us) mid d' y q' (goes is some l) a' (subst (λ l. Depends (universals_of prefix) l y) (append_assoc read (u ∷ []) us) dep) (s ∙ length-set d.table _ _) (behind_more w ws mid q' behind)))))

  dependency_yes : (d d' : Declared) (w : Spelt) (ws : List Spelt) (q n : ℕ) → Number w n → 0 < n → add_dependency known d v n (start_of w) ≡ Ok d' → reads known size (dependencies v) d (w ∷ ws) q ≡ reads known size (dependencies v) d' ws (end_of w)
  dependency_yes d d' w ws q n is some e =
      number_then w n _ is ∙ cond-false (eqb n 0) _ _ (ne_eqb n 0 (λ z. omega arith))
      ∙ ap (λ x. and_then x (λ d''. reads known size (dependencies v) d'' ws (end_of w))) e

  dependencies_yes : {ws mid : List Spelt} {us : List ℕ} → Listing ws us mid → (d : Declared) (x : ValueWord) (read : List ℕ) (q : ℕ) → DeclaredAs known d (prefix ++ existential v x ∷ []) → Depends (universals_of prefix) read x → Distinct (read ++ us) → AllByRecursion (λ u. member u (universals_of prefix) ≡ true) us → (d' : Declared) × (y : ValueWord) × (q' : ℕ) × (reads known size (dependencies v) d ws q ≡ reads known size outside d' mid q') × DeclaredAs known d' (prefix ++ existential v y ∷ []) × Depends (universals_of prefix) (read ++ us) y
  dependencies_yes (ends {w} {ws} is) d x read q a h apart all =
      (d, x, end_of w, number_then w 0 _ is, a, subst (λ l. Depends (universals_of prefix) l x) (sym (append-nil read)) h)
  dependencies_yes (goes {w} {ws} {rest} {n} {ns} is some list) d x read q a h apart (m, all) =
      let together = append_assoc read (n ∷ []) ns in
      let (k, s, b, h') = add_dependency_yes prefix v x a read n (start_of w) h m (distinct_next read n ns apart) in
      let (d', y, q', e, c, dep) = dependencies_yes list (dependency_added d v k) (union_word x (single_word k)) (read ++ n ∷ []) (end_of w) b h' (subst Distinct (sym together) apart) all in
      (d', y, q', dependency_yes d (dependency_added d v k) w ws q n is some s ∙ e, c, subst (λ l. Depends (universals_of prefix) l y) together dep)

-- a list of universals, and one of existentials with these dependencies
module _ (known size : ℕ) where
  through_a : (d : Declared) (prefix : List Declaration) (ws : List Spelt) (q : ℕ) → DeclaredAs known d prefix → (P : Got Declared → Type 0) → ((e : Refusal) → P (Err e)) → ((vs : List ℕ) (mid : List Spelt) (d' : Declared) (q' : ℕ) → Listing ws vs mid → DeclaredAs known d' (prefix ++ map universal vs) → length d'.table ≡ length d.table → Behind ws mid q' → P (reads known size outside d' mid q')) → P (reads known size in_a d ws q)
  through_a d prefix ws q a =
      through_listing known size in_a universal (add_universal known) universal_added (λ d. Unit {0}) (λ d q. (_, refl)) (λ d w ws q. refl) (λ d v c. tt)
      (λ d v. length-set d.table _ _) (λ d prefix a c. add_universal_both a) (λ d prefix a c. add_universal_yes a) d prefix ws q a tt

  a_yes : {ws mid : List Spelt} {vs : List ℕ} → Listing ws vs mid → (d : Declared) (prefix : List Declaration) (q : ℕ) → DeclaredAs known d prefix → LawfulPrefix known (prefix ++ map universal vs) → (d' : Declared) × (q' : ℕ) × (reads known size in_a d ws q ≡ reads known size outside d' mid q') × DeclaredAs known d' (prefix ++ map universal vs)
  a_yes list d prefix q a =
      listing_yes known size in_a universal (add_universal known) universal_added (λ d. Unit {0}) (λ d q. (_, refl)) (λ d w ws q. refl) (λ d v c. tt)
      (λ d v. length-set d.table _ _) (λ d prefix a c. add_universal_both a) (λ d prefix a c. add_universal_yes a) list d prefix q a tt

  module _ (x : ValueWord) where
    abbrev First : Declared → Type 0
    First d = first_word d.universals ≡ x

    abbrev add_first : Declared → ℕ → ℕ → Result Declared Refusal
    add_first d v p = add_existential known d (first_word d.universals) v p

    first_both : (d : Declared) (prefix : List Declaration) → DeclaredAs known d prefix → First d → (v p : ℕ) (P : Result Declared Refusal → Type 0) → ((e : Refusal) → P (Err e)) → (DeclaredAs known (existential_added x d v) (prefix ++ existential v x ∷ []) → P (Ok (existential_added x d v))) → P (add_first d v p)
    first_both d prefix a c v p P bad good = subst (λ y. P (add_existential known d y v p)) (sym c) (add_existential_both a x v p P bad good)

    first_yes : (d : Declared) (prefix : List Declaration) → DeclaredAs known d prefix → First d → (v p : ℕ) → LawfulPrefix known (prefix ++ existential v x ∷ []) → (add_first d v p ≡ Ok (existential_added x d v)) × DeclaredAs known (existential_added x d v) (prefix ++ existential v x ∷ [])
    first_yes d prefix a c v p l = let s = add_existential_yes a x v p l in (ap (λ y. add_existential known d y v p) c ∙ s.0, s.1)

    through_e : (d : Declared) (prefix : List Declaration) (ws : List Spelt) (q : ℕ) → DeclaredAs known d prefix → First d → (P : Got Declared → Type 0) → ((e : Refusal) → P (Err e)) → ((vs : List ℕ) (mid : List Spelt) (d' : Declared) (q' : ℕ) → Listing ws vs mid → DeclaredAs known d' (prefix ++ map (λ v. existential v x) vs) → length d'.table ≡ length d.table → Behind ws mid q' → P (reads known size outside d' mid q')) → P (reads known size in_e d ws q)
    through_e =
        through_listing known size in_e (λ v. existential v x) add_first (existential_added x) First (λ d q. (_, refl)) (λ d w ws q. refl) (λ d v c. c)
        (λ d v. length-set d.table _ _) first_both first_yes

    e_yes : {ws mid : List Spelt} {vs : List ℕ} → Listing ws vs mid → (d : Declared) (prefix : List Declaration) (q : ℕ) → DeclaredAs known d prefix → First d → LawfulPrefix known (prefix ++ map (λ v. existential v x) vs) → (d' : Declared) × (q' : ℕ) × (reads known size in_e d ws q ≡ reads known size outside d' mid q') × DeclaredAs known d' (prefix ++ map (λ v. existential v x) vs)
    e_yes list =
        listing_yes known size in_e (λ v. existential v x) add_first (existential_added x) First (λ d q. (_, refl)) (λ d w ws q. refl) (λ d v c. c)
        (λ d v. length-set d.table _ _) first_both first_yes list

-- an existential and its dependencies
through_d : (known size : ℕ) (d : Declared) (prefix : List Declaration) (ws : List Spelt) (q : ℕ) → DeclaredAs known d prefix → (P : Got Declared → Type 0) → ((e : Refusal) → P (Err e)) → ((longer : List Declaration) (mid : List Spelt) (d' : Declared) (q' : ℕ) → ((w : Spelt) → Name w (codes "d") → (all : List Declaration) (rest : List Spelt) → Groups longer mid all rest → Groups prefix (w ∷ ws) all rest) → DeclaredAs known d' longer → length d'.table ≡ length d.table → Behind ws mid q' → P (reads known size outside d' mid q')) → P (reads known size dependent d ws q)
through_d known size d prefix [] q a P bad good = bad _
through_d known size d prefix (x ∷ ws) q a P bad good =
    number_both x _ P bad
    (λ v is.
    add_existential_both a empty_word v (start_of x) (λ r. P (and_then r (λ d'. reads known size (dependencies v) d' ws (end_of x)))) bad
    (λ b.
    through_dependencies known size prefix v (existential_added empty_word d v) empty_word [] ws (end_of x) b (depends_none (universals_of prefix)) P bad
    (λ us mid d' y p list c dep long behind.
    good (prefix ++ existential v y ∷ []) mid d' p (λ w name all rest gs. d_group v name is list dep gs) c (long ∙ length-set d.table _ _) (behind_more x ws mid p behind))))

-- What the reading of groups says: groups of the grammar, up to a word that begins none, and their prefix.
abbrev Outcome : ℕ → List Declaration → List Spelt → ℕ → Declared → Got Declared → Type 0
Outcome known prefix ws q d (Ok r) =
    (all : List Declaration) × Groups prefix ws all r.1 × Stops r.1 × DeclaredAs known r.0 all
    × (((r.1 ≡ ws) × (r.2 ≡ q)) ⊎ Behind ws r.1 r.2) × (length r.0.table ≡ length d.table)
Outcome known prefix ws q d (Err e) = Unit {0}

-- a group in front of what was read
extend : (known : ℕ) (prefix longer : List Declaration) (ws mid : List Spelt) (q p : ℕ) (d d' : Declared) → ((all : List Declaration) (rest : List Spelt) → Groups longer mid all rest → Groups prefix ws all rest) → Behind ws mid p → length d'.table ≡ length d.table → (r : Got Declared) → Outcome known longer mid p d' r → Outcome known prefix ws q d r
extend known prefix longer ws mid q p d d' group behind long (Ok r) (all, gs, stops, a, at, s) =
    (all, group all r.1 gs, stops, a, inr (behind_then ws mid r.1 p r.2 behind at), s ∙ long)
extend known prefix longer ws mid q p d d' group behind long (Err e) o = tt

module _ (known size : ℕ) where
  -- by induction on a bound on the words
  outcome : (n : ℕ) (prefix : List Declaration) (ws : List Spelt) (q : ℕ) (d : Declared) → length ws ≤ n → DeclaredAs known d prefix → Outcome known prefix ws q d (reads known size outside d ws q)
  outcome n prefix [] q d h a = (prefix, none, tt, a, inl (refl, refl), refl)
  outcome zero prefix (w ∷ ws) q d h a = absurd (omega arith)
  outcome (suc n) prefix (w ∷ ws) q d h a =
      let P = Outcome known prefix (w ∷ ws) q d in
      begun_both known size d w ws q P
      (λ name.
      through_a known size d prefix ws (end_of w) a P (λ e. tt)
      (λ vs mid d' p list b long behind.
      let shorter = behind_shorter ws mid p behind in
      extend known prefix _ (w ∷ ws) mid q p d d' (λ all rest gs. a_group name list gs) (behind_more w ws mid p behind) long _
      (outcome n (prefix ++ map universal vs) mid p d' (omega arith) b)))
      (λ name.
      let x = first_word (length (universals_of prefix)) in
      through_e known size x d prefix ws (end_of w) a (ap first_word a.universals) P (λ e. tt)
      (λ vs mid d' p list b long behind.
      let shorter = behind_shorter ws mid p behind in
      extend known prefix _ (w ∷ ws) mid q p d d' (λ all rest gs. e_group name list gs) (behind_more w ws mid p behind) long _
      (outcome n (prefix ++ map (λ v. existential v x) vs) mid p d' (omega arith) b)))
      (λ name.
      through_d known size d prefix ws (end_of w) a P (λ e. tt)
      (λ longer mid d' p group b long behind.
      let shorter = behind_shorter ws mid p behind in
      extend known prefix longer (w ∷ ws) mid q p d d' (group w name) (behind_more w ws mid p behind) long _
      (outcome n longer mid p d' (omega arith) b)))
      (λ stops. (prefix, none, stops, a, inl (refl, refl), refl))

-- SOUND: what the reading accepts is groups of the grammar.
pub groups_sound : (known size : ℕ) (d d' : Declared) (prefix : List Declaration) (ws rest : List Spelt) (q q' : ℕ) → DeclaredAs known d prefix → groups_from known outside d ws q size ≡ Ok (d', rest, q') → (all : List Declaration) × Groups prefix ws all rest × Stops rest × DeclaredAs known d' all × (((rest ≡ ws) × (q' ≡ q)) ⊎ Behind ws rest q') × (length d'.table ≡ length d.table)
groups_sound known size d d' prefix ws rest q q' a e =
    subst (Outcome known prefix ws q d) e (outcome known size (length ws) prefix ws q d (omega arith) a)

-- groups only append to a prefix
groups_append : {prefix all : List Declaration} {ws rest : List Spelt} → Groups prefix ws all rest → (more : List Declaration) × (all ≡ prefix ++ more)
groups_append {prefix} none = ([], sym (append-nil prefix))
groups_append {prefix} (a_group {vs = vs} name list gs) =
    let (more, e) = groups_append gs in (map universal vs ++ more, e ∙ append_assoc prefix (map universal vs) more)
groups_append {prefix} (e_group {vs = vs} name list gs) =
    let (more, e) = groups_append gs in
    let ds = map (λ v. existential v (first_word (length (universals_of prefix)))) vs in (ds ++ more, e ∙ append_assoc prefix ds more)
groups_append {prefix} (d_group v {d = y} name is list dep gs) =
    let (more, e) = groups_append gs in (existential v y ∷ more, e ∙ append_assoc prefix (existential v y ∷ []) more)

-- so what they begin with is lawful where all is
lawful_before : (known : ℕ) {prefix all : List Declaration} {ws rest : List Spelt} → Groups prefix ws all rest → LawfulPrefix known all → LawfulPrefix known prefix
lawful_before known {prefix} gs l = let (more, e) = groups_append gs in lawful_front known prefix more (subst (LawfulPrefix known) e l)

module _ (known size : ℕ) where
  stops_yes : (d : Declared) (ws : List Spelt) (q : ℕ) → Stops ws → reads known size outside d ws q ≡ Ok (d, ws, q)
  stops_yes d [] q s = refl
  stops_yes d (w ∷ ws) q (a, e, dd) =
      begun_both known size d w ws q (λ r. r ≡ Ok (d, w ∷ ws, q)) (λ h. absurd (a h)) (λ h. absurd (e h)) (λ h. absurd (dd h)) (λ s. refl)

  dependent_yes : (d d' : Declared) (x : Spelt) (ws : List Spelt) (q v : ℕ) → Number x v → add_existential known d empty_word v (start_of x) ≡ Ok d' → reads known size dependent d (x ∷ ws) q ≡ reads known size (dependencies v) d' ws (end_of x)
  dependent_yes d d' x ws q v is e = number_then x v _ is ∙ ap (λ r. and_then r (λ d''. reads known size (dependencies v) d'' ws (end_of x))) e

  d_yes : {ws mid : List Spelt} {us : List ℕ} → Listing ws us mid → (d : Declared) (prefix : List Declaration) (x : Spelt) (v : ℕ) (y : ValueWord) (q : ℕ) → Number x v → Depends (universals_of prefix) us y → DeclaredAs known d prefix → LawfulPrefix known (prefix ++ existential v y ∷ []) → (d' : Declared) × (q' : ℕ) × (reads known size dependent d (x ∷ ws) q ≡ reads known size outside d' mid q') × DeclaredAs known d' (prefix ++ existential v y ∷ [])
  d_yes {ws} {mid} {us} list d prefix x v y q is dep a l =
      let (s, b) = add_existential_yes a empty_word v (start_of x) (lawful_like known prefix v y empty_word l) in
      let (d', z, p, e, c, dep') = dependencies_yes known size prefix v list (existential_added empty_word d v) empty_word [] (end_of x) b (depends_none (universals_of prefix)) dep.distinct dep.declared in
      let same = depends_same (universals_of prefix) us z y dep' dep in
      (d', p, dependent_yes d (existential_added empty_word d v) x ws q v is s ∙ e, subst (λ k. DeclaredAs known d' (prefix ++ existential v k ∷ [])) same c)

  -- COMPLETE: the reading accepts groups of the grammar whose prefix is lawful.
  pub groups_complete : {prefix all : List Declaration} {ws rest : List Spelt} → Groups prefix ws all rest → Stops rest → LawfulPrefix known all → (d : Declared) (q : ℕ) → DeclaredAs known d prefix → (d' : Declared) × (q' : ℕ) × (groups_from known outside d ws q size ≡ Ok (d', rest, q')) × DeclaredAs known d' all
  groups_complete {ws = ws} none stops l d q a = (d, q, stops_yes d ws q stops, a)
  groups_complete {prefix} (a_group {w} {ws} name list gs) stops l d q a =
      let (d', p, e, b) = a_yes known size list d prefix (end_of w) a (lawful_before known gs l) in
      let (d'', q'', f, c) = groups_complete gs stops l d' p b in
      (d'', q'', begun_a known size d w ws q name ∙ e ∙ f, c)
  groups_complete {prefix} (e_group {w} {ws} name list gs) stops l d q a =
      let x = first_word (length (universals_of prefix)) in
      let (d', p, e, b) = e_yes known size x list d prefix (end_of w) a (ap first_word a.universals) (lawful_before known gs l) in
      let (d'', q'', f, c) = groups_complete gs stops l d' p b in
      (d'', q'', begun_e known size d w ws q name ∙ e ∙ f, c)
  groups_complete {prefix} (d_group {w} {x} {ws} v name is list dep gs) stops l d q a =
      let (d', p, e, b) = d_yes list d prefix x v _ (end_of w) is dep a (lawful_before known gs l) in
      let (d'', q'', f, c) = groups_complete gs stops l d' p b in
      (d'', q'', begun_d known size d w (x ∷ ws) q name ∙ e ∙ f, c)
