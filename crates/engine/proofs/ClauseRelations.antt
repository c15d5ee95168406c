-- Clauses as relations: what the joined clause of a premise and of a resolvent are, and that nothing else is.
use Rattle.std.proofs.Common.{◌≡◌, ℕ, zero, suc, ◌+◌, ◌-◌, ◌≤◌, Bool, true, false, cond, ◌⊎◌, List, [], ◌∷◌, ◌++◌, length, take, drop, Some, None, Option, sym, refl, ap, ◌∙◌, subst, inl, inr, ⊎_elim, arith}
use Rattle.std.proofs.lemmas.List.{append_assoc, append-nil, length-take}
use Rattle.std.proofs.lemmas.Bool.{both_ways, false≢true, cond-true, cond-false, cases_Bool, and_parts, and_from, or_cases, or_left, or_right, ne_eqb}
use Rattle.clauses.specs.declared.clause.Found.{Found}
use Rattle.clauses.specs.declared.clause.Found.TheVariants as found
use Rattle.clauses.specs.declared.entry.Entry.{Entry}
use Rattle.clauses.specs.Worlds.{same_entry, complement_entry}
use Rattle.clauses.specs.Clauses.{Joined, joined, contained, member, found_in, is_except, add_by, add, join, once, pivot_at, resolvent}
use Rattle.clauses.proofs.ClauseLaws.{pivot_split}
use Rattle.clauses.specs.EntryLaws.{same_itself, same_from, twice, apart}
use Rattle.engine.specs.Histories.{LiteralOf, SomeOf, Once, Consistent, FirstOf, Resolvent}
use Rattle.engine.specs.Histories.{here, there, none, keeps, leaves}

-- a literal of a clause, and the test
pub literal_member : (x : Entry) (ys : List Entry) → LiteralOf x ys → member same_entry x ys ≡ true
literal_member x [] l = elim l [ ]
literal_member x (y ∷ ys) here = or_left (same_entry x x) (member same_entry x ys) (same_itself x)
literal_member x (y ∷ ys) (there l) = or_right (same_entry y x) (member same_entry x ys) (literal_member x ys l)

pub member_literal : (x : Entry) (ys : List Entry) → member same_entry x ys ≡ true → LiteralOf x ys
member_literal x [] m = absurd (false≢true m)
member_literal x (y ∷ ys) m =
    ⊎_elim
    (λ l. subst (λ (z : Entry). LiteralOf x (z ∷ ys)) (sym (same_from y x l)) here)
    (λ r. there (member_literal x ys r))
    (or_cases (same_entry y x) (member same_entry x ys) m)

no_literal : {x : Entry} → LiteralOf x [] → ⊥
no_literal l = elim l [ ]

pub literal_left : {x : Entry} (ys zs : List Entry) → LiteralOf x ys → LiteralOf x (ys ++ zs)
literal_left [] zs l = absurd (no_literal l)
literal_left (y ∷ ys) zs here = here
literal_left (y ∷ ys) zs (there l) = there (literal_left ys zs l)

pub literal_right : {x : Entry} (ys zs : List Entry) → LiteralOf x zs → LiteralOf x (ys ++ zs)
literal_right [] zs l = l
literal_right (y ∷ ys) zs l = there (literal_right ys zs l)

pub literal_cases : {x : Entry} (ys zs : List Entry) → LiteralOf x (ys ++ zs) → LiteralOf x ys ⊎ LiteralOf x zs
literal_cases [] zs l = inr l
literal_cases (y ∷ ys) zs here = inl here
literal_cases (y ∷ ys) zs (there l) = ⊎_elim (λ a. inl (there a)) (λ b. inr b) (literal_cases ys zs l)

literal_one : {x y : Entry} → LiteralOf x (y ∷ []) → x ≡ y
literal_one here = refl
literal_one (there l) = absurd (no_literal l)

literal_none : (x y : Entry) (ys : List Entry) → same_entry y x ≡ false → (LiteralOf x ys → ⊥) → LiteralOf x (y ∷ ys) → ⊥
literal_none x y ys e h here = both_ways (same_entry x x) e (same_itself x)
literal_none x y ys e h (there l) = h l

pub some_literal : {x : Entry} {xs ys : List Entry} → SomeOf xs ys → LiteralOf x xs → LiteralOf x ys
some_literal none l = l
some_literal (leaves s) l = there (some_literal s l)
some_literal (keeps s) here = here
some_literal (keeps s) (there l) = there (some_literal s l)

-- a goal that has every literal of a clause
pub contained_all : (c goal : List Entry) → contained same_entry c goal ≡ true → (x : Entry) → LiteralOf x c → LiteralOf x goal
contained_all [] goal e x l = absurd (no_literal l)
contained_all (y ∷ c) goal e x here = member_literal x goal (and_parts (member same_entry x goal) (contained same_entry c goal) e).0
contained_all (y ∷ c) goal e x (there l) = contained_all c goal (and_parts (member same_entry y goal) (contained same_entry c goal) e).1 x l

pub all_contained : (c goal : List Entry) → ((x : Entry) → LiteralOf x c → LiteralOf x goal) → contained same_entry c goal ≡ true
all_contained [] goal h = refl
all_contained (y ∷ c) goal h = and_from (member same_entry y goal) (contained same_entry c goal) (literal_member y goal (h y here)) (all_contained c goal (λ x l. h x (there l)))

-- what is found
data Finds (y : Entry) (acc : List Entry) : Found → Type 0 where
  finds : LiteralOf y acc → Finds y acc found.Same
  finds_other : LiteralOf (complement_entry y) acc → Finds y acc found.Opposite
  finds_none : (LiteralOf y acc → ⊥) → (LiteralOf (complement_entry y) acc → ⊥) → Finds y acc found.Neither

finds_more : (y z : Entry) (zs : List Entry) (f : Found) → same_entry z y ≡ false → same_entry z (complement_entry y) ≡ false → Finds y zs f → Finds y (z ∷ zs) f
finds_more y z zs f a b (finds l) = finds (there l)
finds_more y z zs f a b (finds_other l) = finds_other (there l)
finds_more y z zs f a b (finds_none l m) = finds_none (literal_none y z zs a l) (literal_none (complement_entry y) z zs b m)

found_is : (y : Entry) (acc : List Entry) → Finds y acc (found_in same_entry y (complement_entry y) acc)
found_is y [] = finds_none no_literal no_literal
found_is y (z ∷ zs) =
    ⊎_elim
    (λ a. subst (Finds y (z ∷ zs)) (sym (cond-true _ _ _ a)) (finds (subst (λ (w : Entry). LiteralOf y (w ∷ zs)) (sym (same_from z y a)) here)))
    (λ a.
    ⊎_elim
    (λ b. subst (Finds y (z ∷ zs)) (sym (cond-false _ _ _ a ∙ cond-true _ _ _ b)) (finds_other (subst (λ (w : Entry). LiteralOf (complement_entry y) (w ∷ zs)) (sym (same_from z (complement_entry y) b)) here)))
    (λ b. subst (Finds y (z ∷ zs)) (sym (cond-false _ _ _ a ∙ cond-false _ _ _ b)) (finds_more y z zs _ a b (found_is y zs)))
    (cases_Bool (same_entry z (complement_entry y))))
    (cases_Bool (same_entry z y))

found_same : {y : Entry} {acc : List Entry} (f : Found) → Finds y acc f → LiteralOf y acc → (LiteralOf (complement_entry y) acc → ⊥) → f ≡ found.Same
found_same f (finds l) a h = refl
found_same f (finds_other m) a h = absurd (h m)
found_same f (finds_none n m) a h = absurd (n a)

found_neither : {y : Entry} {acc : List Entry} (f : Found) → Finds y acc f → (LiteralOf y acc → ⊥) → (LiteralOf (complement_entry y) acc → ⊥) → f ≡ found.Neither
found_neither f (finds l) n h = absurd (n l)
found_neither f (finds_other m) n h = absurd (h m)
found_neither f (finds_none a b) n h = refl

-- one more literal
data Adds (except : Option Entry) (acc : List Entry) (y : Entry) : Joined Entry → Type 0 where
  excepted : is_except same_entry except y ≡ true → Adds except acc y (joined acc false)
  again : is_except same_entry except y ≡ false → LiteralOf y acc → Adds except acc y (joined acc false)
  clashes : is_except same_entry except y ≡ false → LiteralOf (complement_entry y) acc → Adds except acc y (joined acc true)
  adds : is_except same_entry except y ≡ false → (LiteralOf y acc → ⊥) → (LiteralOf (complement_entry y) acc → ⊥) → Adds except acc y (joined (acc ++ y ∷ []) false)

adds_by : (except : Option Entry) (acc : List Entry) (y : Entry) (f : Found) → is_except same_entry except y ≡ false → Finds y acc f → Adds except acc y (add_by same_entry complement_entry f (joined acc false) y)
adds_by except acc y f e (finds l) = again e l
adds_by except acc y f e (finds_other l) = clashes e l
adds_by except acc y f e (finds_none l m) = adds e l m

adds_is : (except : Option Entry) (acc : List Entry) (y : Entry) → Adds except acc y (add same_entry complement_entry except (joined acc false) y)
adds_is except acc y =
    ⊎_elim
    (λ t. subst (Adds except acc y) (sym (cond-true _ _ _ t)) (excepted t))
    (λ f. subst (Adds except acc y) (sym (cond-false _ _ _ f)) (adds_by except acc y _ f (found_is y acc)))
    (cases_Bool (is_except same_entry except y))

-- a clash stays
stays_by : (b : Bool) (f : Found) (acc : List Entry) (y : Entry) → (cond b (joined acc true) (add_by same_entry complement_entry f (joined acc true) y)).clash ≡ true
stays_by true f acc y = refl
stays_by false found.Same acc y = refl
stays_by false found.Opposite acc y = refl
stays_by false found.Neither acc y = refl

stays : (except : Option Entry) (ys : List Entry) (j : Joined Entry) → j.clash ≡ true → (join same_entry complement_entry except j ys).clash ≡ true
stays except [] j e = e
stays except (y ∷ ys) j e =
    stays except ys (add same_entry complement_entry except j y)
    (ap (λ (b : Bool). (add same_entry complement_entry except (joined j.clause b) y).clash) e
    ∙ stays_by (is_except same_entry except y) (found_in same_entry y (complement_entry y) j.clause) j.clause y)

-- Literals behind a clause with no clash: those that are neither excepted nor there already, each where it first stands.
data Grows (except : Option Entry) : List Entry → List Entry → List Entry → Type 0 where
  ends : {acc : List Entry} → Grows except acc [] []
  skips : {acc ys more : List Entry} {y : Entry} → is_except same_entry except y ≡ true → Grows except acc ys more → Grows except acc (y ∷ ys) more
  repeats : {acc ys more : List Entry} {y : Entry} → is_except same_entry except y ≡ false → LiteralOf y acc → Grows except acc ys more → Grows except acc (y ∷ ys) more
  appends : {acc ys more : List Entry} {y : Entry} → is_except same_entry except y ≡ false → (LiteralOf y acc → ⊥) → (LiteralOf (complement_entry y) acc → ⊥) → Grows except (acc ++ y ∷ []) ys more → Grows except acc (y ∷ ys) (y ∷ more)

record Grown (except : Option Entry) (acc ys c : List Entry) : Type 0 where
  more : List Entry
  is : c ≡ acc ++ more
  grows : Grows except acc ys more

module _ (except : Option Entry) where
  abbrev GrownEach : List Entry → Type 0
  GrownEach ys = (acc : List Entry) → (join same_entry complement_entry except (joined acc false) ys).clash ≡ false → Grown except acc ys (join same_entry complement_entry except (joined acc false) ys).clause

  grown_by : (acc ys : List Entry) (y : Entry) (j : Joined Entry) → GrownEach ys → Adds except acc y j → (join same_entry complement_entry except j ys).clash ≡ false → Grown except acc (y ∷ ys) (join same_entry complement_entry except j ys).clause
  grown_by acc ys y j h (excepted t) e = let g = h acc e in record { more = g.more; is = g.is; grows = skips t g.grows }
  grown_by acc ys y j h (again f l) e = let g = h acc e in record { more = g.more; is = g.is; grows = repeats f l g.grows }
  grown_by acc ys y j h (clashes f l) e = absurd (both_ways _ e (stays except ys (joined acc true) refl))
  grown_by acc ys y j h (adds f l m) e =
      let g = h (acc ++ y ∷ []) e in
      record { more = y ∷ g.more; is = g.is ∙ append_assoc acc (y ∷ []) g.more; grows = appends f l m g.grows }

  grown : (ys : List Entry) → GrownEach ys
  grown [] acc e = record { more = []; is = sym (append-nil acc); grows = ends }
  grown (y ∷ ys) acc e = grown_by acc ys y (add same_entry complement_entry except (joined acc false) y) (λ a h. grown ys a h) (adds_is except acc y) e

  abbrev joins : List Entry → List Entry → Joined Entry
  joins acc ys = join same_entry complement_entry except (joined acc false) ys

  join_next : (acc ys : List Entry) (y : Entry) (j : Joined Entry) → add same_entry complement_entry except (joined acc false) y ≡ j → joins acc (y ∷ ys) ≡ join same_entry complement_entry except j ys
  join_next acc ys y j e = ap (λ (k : Joined Entry). join same_entry complement_entry except k ys) e

  -- and the clause of what grows
  grows_joined : {acc ys more : List Entry} → Grows except acc ys more → Consistent (acc ++ more) → joins acc ys ≡ joined (acc ++ more) false
  grows_joined {acc} ends k = ap (λ (c : List Entry). joined c false) (sym (append-nil acc))
  grows_joined {acc} (skips {ys} {more} {y} t g) k = join_next acc ys y (joined acc false) (cond-true _ _ _ t) ∙ grows_joined g k
  grows_joined {acc} (repeats {ys} {more} {y} f l g) k =
      let found : found_in same_entry y (complement_entry y) acc ≡ found.Same = found_same _ (found_is y acc) l (λ m. k y (literal_left acc more l) (literal_left acc more m)) in
      join_next acc ys y (joined acc false) (cond-false _ _ _ f ∙ ap (λ w. add_by same_entry complement_entry w (joined acc false) y) found) ∙ grows_joined g k
  grows_joined {acc} (appends {ys} {more} {y} f l m g) k =
      let found : found_in same_entry y (complement_entry y) acc ≡ found.Neither = found_neither _ (found_is y acc) l m in
      join_next acc ys y (joined (acc ++ y ∷ []) false) (cond-false _ _ _ f ∙ ap (λ w. add_by same_entry complement_entry w (joined acc false) y) found)
      ∙ grows_joined g (subst Consistent (sym (append_assoc acc (y ∷ []) more)) k)
      ∙ ap (λ (c : List Entry). joined c false) (append_assoc acc (y ∷ []) more)

  -- what grows is consistent where it began so
  pushed_consistent : (acc : List Entry) (y : Entry) → Consistent acc → (LiteralOf (complement_entry y) acc → ⊥) → Consistent (acc ++ y ∷ [])
  pushed_consistent acc y k h x a b =
      ⊎_elim
      (λ l.
      ⊎_elim (λ m. k x l m) (λ m. h (subst (λ (z : Entry). LiteralOf z acc) (sym (twice x) ∙ ap complement_entry (literal_one m)) l))
      (literal_cases acc (y ∷ []) b))
      (λ l.
      let e : x ≡ y = literal_one l in
      ⊎_elim (λ m. h (subst (λ (z : Entry). LiteralOf (complement_entry z) acc) e m)) (λ m. apart x (literal_one m ∙ sym e))
      (literal_cases acc (y ∷ []) b))
      (literal_cases acc (y ∷ []) a)

  grows_consistent : {acc ys more : List Entry} → Grows except acc ys more → Consistent acc → Consistent (acc ++ more)
  grows_consistent {acc} ends k = subst Consistent (sym (append-nil acc)) k
  grows_consistent (skips t g) k = grows_consistent g k
  grows_consistent (repeats f l g) k = grows_consistent g k
  grows_consistent {acc} (appends {ys} {more} {y} f l m g) k = subst Consistent (append_assoc acc (y ∷ []) more) (grows_consistent g (pushed_consistent acc y k m))

  -- which literals
  grows_some : {acc ys more : List Entry} → Grows except acc ys more → SomeOf more ys
  grows_some ends = none
  grows_some (skips t g) = leaves (grows_some g)
  grows_some (repeats f l g) = leaves (grows_some g)
  grows_some (appends f l m g) = keeps (grows_some g)

  grows_new : {acc ys more : List Entry} → Grows except acc ys more → (x : Entry) → LiteralOf x more → (is_except same_entry except x ≡ false) × (LiteralOf x acc → ⊥)
  grows_new ends x h = absurd (no_literal h)
  grows_new (skips t g) x h = grows_new g x h
  grows_new (repeats f l g) x h = grows_new g x h
  grows_new (appends f l m g) x here = (f, l)
  grows_new {acc} (appends {ys} {more} {y} f l m g) x (there h) = let n = grows_new g x h in (n.0, λ a. n.1 (literal_left acc (y ∷ []) a))

  grows_once : {acc ys more : List Entry} → Grows except acc ys more → Once more
  grows_once ends = tt
  grows_once (skips t g) = grows_once g
  grows_once (repeats f l g) = grows_once g
  grows_once {acc} (appends {ys} {more} {y} f l m g) = (λ a. (grows_new g y a).1 (literal_right acc (y ∷ []) here), grows_once g)

  grows_all : {acc ys more : List Entry} → Grows except acc ys more → (x : Entry) → LiteralOf x ys → (is_except same_entry except x ≡ true) ⊎ (LiteralOf x (acc ++ more))
  grows_all ends x h = absurd (no_literal h)
  grows_all (skips t g) x here = inl t
  grows_all (skips t g) x (there h) = grows_all g x h
  grows_all {acc} (repeats {ys} {more} {y} f l g) x here = inr (literal_left acc more l)
  grows_all (repeats f l g) x (there h) = grows_all g x h
  grows_all {acc} (appends {ys} {more} {y} f l m g) x here = inr (literal_right acc (y ∷ more) here)
  grows_all {acc} (appends {ys} {more} {y} f l m g) x (there h) =
      ⊎_elim (λ a. inl a) (λ b. inr (subst (LiteralOf x) (append_assoc acc (y ∷ []) more) b)) (grows_all g x h)

-- a premise
first_grows : {acc ys c : List Entry} → FirstOf acc ys c → Consistent (acc ++ c) → Grows None acc ys c
first_grows none k = ends
first_grows {acc} (keeps {xs} {c} {x} n f) k =
    appends refl n (λ m. k x (literal_right acc (x ∷ c) here) (literal_left acc (x ∷ c) m)) (first_grows f (subst Consistent (sym (append_assoc acc (x ∷ []) c)) k))
first_grows (leaves l f) k = repeats refl l (first_grows f k)

grows_first : {acc ys c : List Entry} → Grows None acc ys c → FirstOf acc ys c
grows_first ends = none
grows_first (skips t g) = absurd (false≢true t)
grows_first (repeats f l g) = leaves l (grows_first g)
grows_first (appends f l m g) = keeps l (grows_first g)

nothing_clashes : Consistent []
nothing_clashes x l m = no_literal l

-- a premise with each literal kept once, where none clashes
pub record KeptOnce (claimed c : List Entry) : Type 0 where
  pub relation : FirstOf [] claimed c
  pub once_each : Once c
  pub consistent : Consistent c

pub once_first : (claimed : List Entry) → (once same_entry complement_entry claimed).clash ≡ false → KeptOnce claimed (once same_entry complement_entry claimed).clause
once_first claimed e =
    let g = grown None claimed [] e in
    subst (KeptOnce claimed) (sym g.is) (record { relation = grows_first g.grows; once_each = grows_once None g.grows; consistent = grows_consistent None g.grows nothing_clashes })

pub first_kept : (claimed c : List Entry) → FirstOf [] claimed c → Consistent c → Once c
first_kept claimed c f k = grows_once None (first_grows f k)

pub first_once : (claimed c : List Entry) → FirstOf [] claimed c → Consistent c → once same_entry complement_entry claimed ≡ joined c false
first_once claimed c f k = grows_joined None (first_grows f k) k

-- a resolvent
same_true : (x y : Entry) → x ≡ y → same_entry x y ≡ true
same_true x y e = subst (λ (z : Entry). same_entry x z ≡ true) e (same_itself x)

same_false : (x y : Entry) → (x ≡ y → ⊥) → same_entry x y ≡ false
same_false x y h = ⊎_elim (λ t. absurd (h (same_from x y t))) (λ f. f) (cases_Bool (same_entry x y))

resolvent_grows : (p : Entry) (acc second more : List Entry) → Once second → SomeOf more second → Once more → ((x : Entry) → LiteralOf x more → (x ≡ p → ⊥) × (LiteralOf x acc → ⊥)) → ((x : Entry) → LiteralOf x second → (x ≡ p) ⊎ (LiteralOf x (acc ++ more))) → Consistent (acc ++ more) → Grows (Some p) acc second more
resolvent_grows p acc second more o none m new all k = ends
resolvent_grows p acc second more o (leaves {y} {xs} {ys} s) m new all k =
    let rest = resolvent_grows p acc ys more o.1 s m new (λ x l. all x (there l)) k in
    ⊎_elim
    (λ t. skips t rest)
    (λ f.
    ⊎_elim
    (λ e. absurd (both_ways _ f (same_true y p e)))
    (λ l. ⊎_elim (λ a. repeats f a rest) (λ b. absurd (o.0 (some_literal s b))) (literal_cases acc more l))
    (all y here))
    (cases_Bool (same_entry y p))
resolvent_grows p acc second more o (keeps {y} {xs} {ys} s) m new all k =
    let n = new y here in
    appends (same_false y p n.0) n.1 (λ c. k y (literal_right acc (y ∷ xs) here) (literal_left acc (y ∷ xs) c))
    (resolvent_grows p (acc ++ y ∷ []) ys xs o.1 s m.1
    (λ x l. (
      (new x (there l)).0,
      λ a. ⊎_elim (λ b. (new x (there l)).1 b) (λ b. m.0 (subst (λ (z : Entry). LiteralOf z xs) (literal_one b) l)) (literal_cases acc (y ∷ []) a),
    ))
    (λ x l. ⊎_elim (λ a. inl a) (λ b. inr (subst (LiteralOf x) (sym (append_assoc acc (y ∷ []) xs)) b)) (all x (there l)))
    (subst Consistent (sym (append_assoc acc (y ∷ []) xs)) k))

literal_more : {x : Entry} (before behind : List Entry) (pivot : Entry) → LiteralOf x (before ++ behind) → LiteralOf x (before ++ pivot ∷ behind)
literal_more before behind pivot l =
    ⊎_elim (λ a. literal_left before (pivot ∷ behind) a) (λ b. literal_right before (pivot ∷ behind) (there b)) (literal_cases before behind l)

once_without : (before behind : List Entry) (pivot : Entry) → Once (before ++ pivot ∷ behind) → Once (before ++ behind)
once_without [] behind pivot o = o.1
once_without (x ∷ before) behind pivot o = (λ l. o.0 (literal_more before behind pivot l), once_without before behind pivot o.1)

once_append : (xs ys : List Entry) → Once xs → Once ys → ((x : Entry) → LiteralOf x ys → LiteralOf x xs → ⊥) → Once (xs ++ ys)
once_append [] ys o p h = p
once_append (x ∷ xs) ys o p h = (
  λ l. ⊎_elim (λ a. o.0 a) (λ b. h x b here) (literal_cases xs ys l),
  once_append xs ys o.1 p (λ z a b. h z a (there b)),
)

pub resolvent_once : (first second : List Entry) (position : ℕ) (c : List Entry) → Once first → Resolvent first second position c → Once c
resolvent_once first second position c o r =
    subst Once (sym r.is)
    (once_append (r.before ++ r.behind) r.more (once_without r.before r.behind r.pivot (subst Once r.first_is o)) r.once (λ x l. (r.new x l).1))

-- where a pivot stands
pivot_there : (before behind : List Entry) (pivot : Entry) → pivot_at complement_entry (before ++ pivot ∷ behind) (length before + 1) ≡ Some (complement_entry pivot)
pivot_there [] behind pivot = refl
pivot_there (x ∷ before) behind pivot =
    let less : length (x ∷ before) + 1 - 1 ≡ length before + 1 = omega arith in
    cond-false _ _ _ (ne_eqb (length (x ∷ before) + 1) 0 (λ z. omega arith)) ∙ cond-false _ _ _ (ne_eqb (length (x ∷ before) + 1) 1 (λ z. omega arith))
    ∙ ap (pivot_at complement_entry (before ++ pivot ∷ behind)) less ∙ pivot_there before behind pivot

take_there : (before : List Entry) (zs : List Entry) → take (length before) (before ++ zs) ≡ before
take_there [] zs = refl
take_there (x ∷ before) zs = ap (λ l. x ∷ l) (take_there before zs)

drop_there : (before behind : List Entry) (pivot : Entry) → drop (suc (length before)) (before ++ pivot ∷ behind) ≡ behind
drop_there [] behind pivot = refl
drop_there (x ∷ before) behind pivot = drop_there before behind pivot

pivot_bounds : (xs : List Entry) (p : ℕ) (c : Entry) → pivot_at complement_entry xs p ≡ Some c → (1 ≤ p) × (p ≤ length xs)
pivot_bounds [] p c e = absurd (cc)
pivot_bounds (x ∷ xs) zero c e = absurd (cc)
pivot_bounds (x ∷ xs) (suc zero) c e = (omega arith, omega arith)
pivot_bounds (x ∷ xs) (suc (suc n)) c e =
    let less : suc (suc n) - 1 ≡ suc n = omega arith in
    let later = ap (pivot_at complement_entry xs) (sym less) ∙ sym (cond-false _ _ _ (ne_eqb (suc (suc n)) 0 (λ z. omega arith)) ∙ cond-false _ _ _ (ne_eqb (suc (suc n)) 1 (λ z. omega arith))) ∙ e in
    let rest = pivot_bounds xs (suc n) c later in
    (omega arith, let h : suc n ≤ length xs = rest.1 in omega arith)

abbrev pub resolves : List Entry → List Entry → Entry → ℕ → Joined Entry
resolves first second x position = resolvent same_entry complement_entry first second x position

-- the resolvent with no clash
pub resolvent_from : (first second : List Entry) (position : ℕ) (x : Entry) → Consistent first → pivot_at complement_entry first position ≡ Some x → member same_entry x second ≡ true → (resolves first second x position).clash ≡ false → Resolvent first second position (resolves first second x position).clause × Consistent (resolves first second x position).clause
resolvent_from first second position x k pe m e =
    let split = pivot_split complement_entry first position x pe in
    let bounds = pivot_bounds first position x pe in
    let before : List Entry = take (position - 1) first in
    let behind : List Entry = drop position first in
    let g = grown (Some x) second (before ++ behind) e in
    let calm : Consistent (before ++ behind) =
    (λ z a b. k z (subst (LiteralOf z) (sym split.1.1) (literal_more before behind split.0 a)) (subst (LiteralOf (complement_entry z)) (sym split.1.1) (literal_more before behind split.0 b))) in (
      record {
        before = before;
        pivot = split.0;
        behind = behind;
        more = g.more;
        first_is = split.1.1;
        position_is = let low : 1 ≤ position = bounds.0 in let high : position ≤ length first = bounds.1 in omega (arith, length-take (position - 1) first);
        complement = subst (λ (z : Entry). LiteralOf z second) split.1.0 (member_literal x second m);
        is = g.is;
        order = grows_some (Some x) g.grows;
        once = grows_once (Some x) g.grows;
        new = λ z l. let n = grows_new (Some x) g.grows z l in (λ q. both_ways _ n.0 (same_true z x (q ∙ sym split.1.0)), n.1);
        all = λ z l. ⊎_elim (λ t. inl (same_from z x t ∙ split.1.0)) (λ b. inr (subst (LiteralOf z) (sym g.is) b)) (grows_all (Some x) g.grows z l);
      },
      subst Consistent (sym g.is) (grows_consistent (Some x) g.grows calm),
    )

-- and nothing else is one
pub record ResolvesTo (first second : List Entry) (position : ℕ) (c : List Entry) : Type 0 where
  pub pivot : Entry
  pub there_is : pivot_at complement_entry first position ≡ Some pivot
  pub has : member same_entry pivot second ≡ true
  pub is : resolves first second pivot position ≡ joined c false

pub from_resolvent : (first second : List Entry) (position : ℕ) (c : List Entry) → Once second → Resolvent first second position c → Consistent c → ResolvesTo first second position c
from_resolvent first second position c o r k =
    let p : Entry = complement_entry r.pivot in
    let before : List Entry = r.before in
    let behind : List Entry = r.behind in
    let less : position - 1 ≡ length before = let q : position ≡ length before + 1 = r.position_is in omega arith in
    let next : position ≡ suc (length before) = let q : position ≡ length before + 1 = r.position_is in omega arith in
    let front : take (position - 1) first ≡ before = ap (λ (i : ℕ). take i first) less ∙ ap (take (length before)) r.first_is ∙ take_there before (r.pivot ∷ behind) in
    let back : drop position first ≡ behind = ap (λ (i : ℕ). drop i first) next ∙ ap (drop (suc (length before))) r.first_is ∙ drop_there before behind r.pivot in
    let g : Grows (Some p) (before ++ behind) second r.more =
    resolvent_grows p (before ++ behind) second r.more o r.order r.once r.new
    (λ x l. ⊎_elim (λ a. inl a) (λ b. inr (subst (LiteralOf x) r.is b)) (r.all x l)) (subst Consistent r.is k) in
    record {
      pivot = p;
      there_is = ap (λ (i : ℕ). pivot_at complement_entry first i) r.position_is ∙ ap (λ (l : List Entry). pivot_at complement_entry l (length before + 1)) r.first_is ∙ pivot_there before behind r.pivot;
      has = literal_member p second r.complement;
      is =
          ap (λ (l : List Entry). join same_entry complement_entry (Some p) (joined (l ++ drop position first) false) second) front
          ∙ ap (λ (l : List Entry). join same_entry complement_entry (Some p) (joined (before ++ l) false) second) back
          ∙ grows_joined (Some p) g (subst Consistent r.is k) ∙ ap (λ (l : List Entry). joined l false) (sym r.is);
    }
