-- A reading that stays in the front of the variables' table is that of the front alone: what lies behind stays.
use Rattle.std.proofs.Common.{◌≡◌, ℕ, zero, suc, ◌-◌, ◌<◌, ◌≤◌, Bool, true, false, cond, not, ◌||◌, eqb, ltb, leb, List, [], ◌∷◌, ◌++◌, length, take, drop, set, replicate, Some, None, Ok, Err, IfOk, Result, sym, refl, ap, ◌∙◌, arith}
use Rattle.std.proofs.lemmas.List.{drop-replicate, get_or_append_left, length-set, length-take-le, set-append_left, take-append-drop}
use Rattle.std.proofs.lemmas.Bool.Decides.{nat_tests}
use Rattle.base.specs.Causes.{Refusal, refused}
use Rattle.base.specs.Words.{empty_word, first_word, has_bit}
use Rattle.words.specs.Words.{Spelt, words_from, start_of, end_of}
use Rattle.words.specs.Due.{Got, and_then, number_in, literal_in}
use Rattle.words.specs.Tables.{padded}
use Rattle.formula.specs.declared.tables.Clause.{Clause}
use Rattle.formula.specs.declared.tables.Literal.{Literal}
use Rattle.formula.specs.declared.tables.Variable.{Variable}
use Rattle.formula.specs.declared.read.groups.Quantifier.{Quantifier}
use Rattle.formula.specs.declared.read.groups.Quantifier.TheVariants as quantifier
use Rattle.formula.specs.declared.read.groups.Group.{Group}
use Rattle.formula.specs.declared.read.groups.Group.TheVariants as group
use Rattle.formula.specs.Groups.{Declared, Where, outside, listed, dependent, dependencies, no_variable, variable_at, is_undeclared, is_universal, fresh, add_listed, add_existential, add_dependency, begun, inside, on_group, groups_from, groups_at, nothing_declared}
use Rattle.formula.specs.Clauses.{Clauses, no_clause, add_clause, add_literal, names, clause_from, clauses_from}

-- two tests, two choices and two readings whose parts agree
cond_same : {X : Type 0} (b : Bool) (x y z : X) → (b ≡ false → y ≡ z) → cond b x y ≡ cond b x z
cond_same true x y z h = refl
cond_same false x y z h = h refl

or_same : (b x y : Bool) → (b ≡ false → x ≡ y) → (b || x) ≡ (b || y)
or_same true x y h = refl
or_same false x y h = h refl

pub then_same : {X Y : Type 0} (r : Result X Refusal) (f g : X → Result Y Refusal) → ((x : X) → f x ≡ g x) → and_then r f ≡ and_then r g
then_same (Ok x) f g h = h x
then_same (Err e) f g h = refl

-- a variable that is one of the formula's has its record in the front
in_front : (known v : ℕ) → (eqb v 0 || ltb known v) ≡ false → v - 1 < known
in_front known v h = grind (arith, nat_tests)

module _ (known : ℕ) (ys : List Variable) where
  at_front : (xs : List Variable) (v : ℕ) → length xs ≡ known → v - 1 < known → variable_at (xs ++ ys) v ≡ variable_at xs v
  at_front xs v l h = get_or_append_left xs ys no_variable (v - 1) (omega arith)

  -- what is declared, in a table that goes on with these records
  abbrev pub wider : Declared → Declared
  wider d = record { universals = d.universals; existentials = d.existentials; table = d.table ++ ys }

  abbrev pub all_wider : Got Declared → Got Declared
  all_wider r = and_then r (λ g. Ok (wider g.0, g.1, g.2))

  -- v is declared, or a dependency of it is: in the longer table as in the front, whose length stays
  abbrev Fronts : ℕ → Result Declared Refusal → Result Declared Refusal → Type 0
  Fronts v r s = (r ≡ and_then s (λ d. Ok (wider d))) × IfOk s (λ d. (length d.table ≡ known) × (v - 1 < known))

  put_front : (u e : ℕ) (xs : List Variable) (v : ℕ) (x : Variable) → length xs ≡ known → v - 1 < known → Fronts v (Ok (record { universals = u; existentials = e; table = set (xs ++ ys) (v - 1) x })) (Ok (record { universals = u; existentials = e; table = set xs (v - 1) x }))
  put_front u e xs v x l h =
      let put = set-append_left xs ys (v - 1) x (omega arith) in
      let long = length-set xs (v - 1) x in
      (ap (λ t. Ok (record { universals = u; existentials = e; table = t })) put, (omega arith, h))

  cond_front : (b : Bool) (v : ℕ) (x : Refusal) (r s : Result Declared Refusal) → (b ≡ false → Fronts v r s) → Fronts v (cond b (Err x) r) (cond b (Err x) s)
  cond_front true v x r s h = (refl, tt)
  cond_front false v x r s h = h refl

  -- a declaration of v that is refused where v is no fresh variable
  checked_front : (v : ℕ) (b k k' : Bool) (x y : Refusal) (r s : Result Declared Refusal) → (b ≡ false → k ≡ k') → (b ≡ false → Fronts v r s) → Fronts v (and_then (cond b (Err x) (cond k (Ok tt) (Err y))) (λ (z : Unit {0}). r)) (and_then (cond b (Err x) (cond k' (Ok tt) (Err y))) (λ (z : Unit {0}). s))
  checked_front v true k k' x y r s h i = (refl, tt)
  checked_front v false true true x y r s h i = i refl
  checked_front v false false false x y r s h i = (refl, tt)
  checked_front v false true false x y r s h i = let z = h refl in absurd (cc)
  checked_front v false false true x y r s h i = let z = h refl in absurd (cc)

  fresh_front : (u e : ℕ) (xs : List Variable) (v p : ℕ) (x : Variable) → length xs ≡ known → Fronts v (and_then (fresh known (xs ++ ys) v p) (λ _. Ok (record { universals = u; existentials = e; table = set (xs ++ ys) (v - 1) x }))) (and_then (fresh known xs v p) (λ _. Ok (record { universals = u; existentials = e; table = set xs (v - 1) x })))
  fresh_front u e xs v p x l =
      checked_front v (eqb v 0 || ltb known v) _ _ _ _ _ _
      (λ h. ap (λ (y : Variable). is_undeclared y.kind) (at_front xs v l (in_front known v h)))
      (λ h. put_front u e xs v x l (in_front known v h))

  -- the ways to declare, and a dependency
  existential_front : (d : Declared) (w : _) (v p : ℕ) → length d.table ≡ known → Fronts v (add_existential known (wider d) w v p) (add_existential known d w v p)
  existential_front d w v p l =
      cond_front (leb 4096 d.existentials) v _ _ _ (λ e. fresh_front d.universals _ d.table v p _ l)

  listed_front : (k : Quantifier) (d : Declared) (v p : ℕ) → length d.table ≡ known → Fronts v (add_listed k known (wider d) v p) (add_listed k known d v p)
  listed_front quantifier.Universal d v p l =
      cond_front (leb 64 d.universals) v _ _ _ (λ e. fresh_front _ d.existentials d.table v p _ l)
  listed_front quantifier.Existential d v p l = existential_front d (first_word d.universals) v p l

  dependency_front : (d : Declared) (v u p : ℕ) → length d.table ≡ known → v - 1 < known → Fronts v (add_dependency known (wider d) v u p) (add_dependency known d v u p)
  dependency_front d v u p l h =
      cond_front (eqb u 0 || ltb known u) v _ _ _ (λ i.
      let a = at_front d.table u l (in_front known u i) in
      let b = at_front d.table v l h in
      rw (a, b)
      (cond_front (not (is_universal (variable_at d.table u).kind)) v _ _ _ (λ j.
      cond_front (has_bit (variable_at d.table v).dependencies (variable_at d.table u).position) v _ _ _ (λ k. put_front d.universals d.existentials d.table v _ l h))))

  -- the reading that goes on behind a declaration, a word and a test
  then_front : (v : ℕ) (r s : Result Declared Refusal) (f g : Declared → Got Declared) → Fronts v r s → ((d : Declared) → length d.table ≡ known → v - 1 < known → f (wider d) ≡ all_wider (g d)) → and_then r f ≡ all_wider (and_then s g)
  then_front v r (Ok d) f g (e, (l, h)) more = ap (λ t. and_then t f) e ∙ more d l h
  then_front v r (Err x) f g (e, l) more = ap (λ t. and_then t f) e

  then_wider : {X : Type 0} (r : Result X Refusal) (f g : X → Got Declared) → ((x : X) → f x ≡ all_wider (g x)) → and_then r f ≡ all_wider (and_then r g)
  then_wider (Ok x) f g h = h x
  then_wider (Err e) f g h = refl

  cond_wider : (b : Bool) (x y x' y' : Got Declared) → x ≡ all_wider x' → y ≡ all_wider y' → cond b x y ≡ all_wider (cond b x' y')
  cond_wider true x y x' y' h i = h
  cond_wider false x y x' y' h i = i

  -- the variable whose dependencies are read is in the front
  abbrev pub Within : Where → Type 0
  Within outside = Unit {0}
  Within (listed k) = Unit {0}
  Within dependent = Unit {0}
  Within (dependencies v) = v - 1 < known

  inside_within : (g : Group) → Within (inside g)
  inside_within (group.Listed k) = tt
  inside_within group.Dependent = tt

  -- the groups of a table, by those of its front
  pub groups_front : (ws : List Spelt) (m : Where) (d : Declared) (q size : ℕ) → length d.table ≡ known → Within m → groups_from known m (wider d) ws q size ≡ all_wider (groups_from known m d ws q size)
  groups_front [] outside d q size l h = refl
  groups_front (w ∷ ws) outside d q size l h =
      elim (begun w)
      as (λ o. on_group o (Ok (wider d, w ∷ ws, q)) (λ g. groups_from known (inside g) (wider d) ws (end_of w) size) ≡ all_wider (on_group o (Ok (d, w ∷ ws, q)) (λ g. groups_from known (inside g) d ws (end_of w) size))) [
        | None ↦ refl
        | Some g ↦ groups_front ws (inside g) d (end_of w) size l (inside_within g)
      ]
  groups_front [] (listed k) d q size l h = refl
  groups_front (w ∷ ws) (listed k) d q size l h =
      then_wider (number_in w) _ _ (λ v.
      cond_wider (eqb v 0) _ _ _ _ (groups_front ws outside d (end_of w) size l tt)
      (then_front v _ _ _ _ (listed_front k d v (start_of w) l) (λ d' l' i. groups_front ws (listed k) d' (end_of w) size l' tt)))
  groups_front [] dependent d q size l h = refl
  groups_front (w ∷ ws) dependent d q size l h =
      then_wider (number_in w) _ _ (λ v.
      then_front v _ _ _ _ (existential_front d empty_word v (start_of w) l) (λ d' l' i. groups_front ws (dependencies v) d' (end_of w) size l' i))
  groups_front [] (dependencies v) d q size l h = refl
  groups_front (w ∷ ws) (dependencies v) d q size l h =
      then_wider (number_in w) _ _ (λ u.
      cond_wider (eqb u 0) _ _ _ _ (groups_front ws outside d (end_of w) size l tt)
      (then_front v _ _ _ _ (dependency_front d v u (start_of w) l h) (λ d' l' i. groups_front ws (dependencies v) d' (end_of w) size l' i)))

  -- the literals and the clauses over a table, by those over its front
  module _ (xs : List Variable) (l : length xs ≡ known) where
    told_front : (v : ℕ) → eqb v 0 ≡ false → (ltb known v || is_undeclared (variable_at (xs ++ ys) v).kind) ≡ (ltb known v || is_undeclared (variable_at xs v).kind)
    told_front v above =
        or_same (ltb known v) _ _ (λ e. ap (λ (x : Variable). is_undeclared x.kind) (at_front xs v l (grind (arith, nat_tests))))

    pub clause_front : (ws : List Spelt) (done : List Literal) (room size : ℕ) → clause_from known (xs ++ ys) done ws room size ≡ clause_from known xs done ws room size
    clause_front [] done room size = refl
    clause_front (w ∷ ws) done room size =
        then_same (literal_in w) _ _ (λ n.
        cond_same (eqb n.value 0) _ _ _ (λ above.
        ap (λ b. and_then (cond (leb 1024 (length done)) (Err (refused 5 (start_of w) 2)) (cond b (Err (refused 6 (start_of w) 2)) (cond (names n.value done) (Err (refused 7 (start_of w) 2)) (cond (leb room (length done)) (Err (refused 8 (start_of w) 2)) (Ok (record { variable = n.value; negative = n.negative })))))) (λ k. clause_from known (xs ++ ys) (done ++ k ∷ []) ws room size)) (told_front n.value above)
        ∙ then_same (add_literal known xs done room n (start_of w)) _ _ (λ k. clause_front ws (done ++ k ∷ []) room size)))

    pub clauses_front : (n : ℕ) (done : Clauses) (ws : List Spelt) (q room size : ℕ) → clauses_from known (xs ++ ys) n done ws q room size ≡ clauses_from known xs n done ws q room size
    clauses_front zero done ws q room size = refl
    clauses_front (suc n) done ws q room size =
        ap (λ r. and_then r (λ c. clauses_from known (xs ++ ys) n (add_clause done c.0) c.1 c.2 room size)) (clause_front ws [] (room - length done.literals) size)
        ∙ then_same (clause_from known xs [] ws (room - length done.literals) size) _ _ (λ c. clauses_front n (add_clause done c.0) c.1 c.2 room size)

-- the groups of a text over a table, by those over its front
pub groups_of_front : (known : ℕ) (vs : List Variable) (text : List ℕ) (p : ℕ) → known ≤ length vs → groups_from known outside (nothing_declared vs) (words_from text p) p (length text) ≡ all_wider known (drop known vs) (groups_at text p outside (nothing_declared (take known vs)))
groups_of_front known vs text p h =
    let l = length-take-le known vs h in
    ap (λ t. groups_from known outside (nothing_declared t) (words_from text p) p (length text)) (sym (take-append-drop known vs))
    ∙ groups_front known (drop known vs) (words_from text p) outside (nothing_declared (take known vs)) p (length text) l tt
    ∙ ap (λ k. all_wider known (drop known vs) (groups_from k outside (nothing_declared (take known vs)) (words_from text p) p (length text))) (sym l)

-- the clauses of a text over a table of variables, by those over its front, as many as the front of their own table
pub clauses_of_front : (known count : ℕ) (vs xs : List Variable) (cs : List Clause) (ws : List Spelt) (q room size : ℕ) → known ≤ length vs → count ≤ length cs → length xs ≡ length (take known vs) → clauses_from known (xs ++ drop known vs) count no_clause ws q room size ≡ clauses_from (length xs) xs (length (take count cs)) no_clause ws q room size
clauses_of_front known count vs xs cs ws q room size h i e =
    let l : length xs ≡ known = e ∙ length-take-le known vs h in
    clauses_front known (drop known vs) xs l count no_clause ws q room size
    ∙ ap (λ k. clauses_from k xs count no_clause ws q room size) (sym l)
    ∙ ap (λ k. clauses_from (length xs) xs k no_clause ws q room size) (sym (length-take-le count cs i))

-- a table that held zeros, with its front filled
pub padded_front : {X : Type 0} (none : X) (n : ℕ) (xs ys : List X) → ys ≡ replicate (length ys) none → n ≤ length ys → length xs ≡ length (take n ys) → xs ++ drop n ys ≡ padded none xs (length ys)
padded_front none n xs ys z h e =
    ap (λ t. xs ++ t) (ap (drop n) z ∙ drop-replicate n (length ys) none ∙ ap (λ k. replicate (length ys - k) none) (sym (e ∙ length-take-le n ys h)))
