-- The groups of declarations, by recursion on the words that are left.
use Rattle.std.specs.Prelude.{◌≡◌, ℕ, ◌+◌, ◌-◌, Bool, true, false, cond, not, ◌||◌, List, [], ◌∷◌, length, Some, None, Ok, Err, Option, Result, ◌==◌, nat_le, nat_lt, slice_index, slice_index_or, slice_set}
use Rattle.base.specs.declared.faults.Fault.{Fault}
use Rattle.base.specs.declared.values.ValueWord.{ValueWord}
use Rattle.base.specs.Causes.{Refusal, told, refused}
use Rattle.base.specs.Words.{empty_word, first_word, single_word, union_word, has_bit}
use Rattle.words.specs.Words.{Spelt, letter, number, other, start_of, end_of, words_from}
use Rattle.words.specs.Due.{Got, and_then, number_in, text_ends, Further}
use Rattle.formula.specs.declared.tables.Kind.{Kind}
use Rattle.formula.specs.declared.tables.Kind.TheVariants as kind
use Rattle.formula.specs.declared.tables.Variable.{Variable}
use Rattle.formula.specs.declared.read.groups.Counts.{Counts}
use Rattle.formula.specs.declared.read.groups.Quantifier.{Quantifier}
use Rattle.formula.specs.declared.read.groups.Quantifier.TheVariants as quantifier
use Rattle.formula.specs.declared.read.groups.Group.{Group}
use Rattle.formula.specs.declared.read.groups.Group.TheVariants as group

-- the record of a variable that is not declared
abbrev pub no_variable : Variable
no_variable = record { kind = kind.Undeclared; position = 0; dependencies = record { bits = 0 } }

-- the record of variable v
abbrev pub variable_at : List Variable → ℕ → Variable
variable_at vs v = slice_index_or vs (v - 1) no_variable

-- the record of v, where v is one of these variables
abbrev pub variable_in : List Variable → ℕ → Option Variable
variable_in vs v = cond (v == 0 || nat_lt (length vs) v) None (Some (variable_at vs v))

abbrev pub is_undeclared : Kind → Bool
is_undeclared kind.Undeclared = true
is_undeclared kind.Universal = false
is_undeclared kind.Existential = false

abbrev pub is_universal : Kind → Bool
is_universal kind.Undeclared = false
is_universal kind.Universal = true
is_universal kind.Existential = false

abbrev pub is_existential : Kind → Bool
is_existential kind.Undeclared = false
is_existential kind.Universal = false
is_existential kind.Existential = true

-- What is declared so far: how many universals and existentials, and the variables' records.
pub record Declared : Type 0 where
  pub universals : ℕ
  pub existentials : ℕ
  pub table : List Variable

abbrev pub declared : Counts → List Variable → Declared
declared c vs = record { universals = c.universals; existentials = c.existentials; table = vs }

-- variable v, at place p, is one of the formula's and is not declared yet
abbrev pub fresh : ℕ → List Variable → ℕ → ℕ → Result (Unit {0}) Refusal
fresh known vs v p =
    cond (v == 0 || nat_lt known v) (Err (refused 6 p 2)) (cond (is_undeclared (variable_at vs v).kind) (Ok tt) (Err (refused 7 p 2)))

-- v is the next universal
abbrev pub add_universal : ℕ → Declared → ℕ → ℕ → Result Declared Refusal
add_universal known d v p =
    cond (nat_le 64 d.universals) (Err (refused 5 p 2))
    (and_then (fresh known d.table v p)
    (λ _. Ok (record { universals = d.universals + 1; existentials = d.existentials; table = slice_set d.table (v - 1) (record { kind = kind.Universal; position = d.universals + 1; dependencies = empty_word }) })))

-- v is the next existential, with these dependencies
abbrev pub add_existential : ℕ → Declared → ValueWord → ℕ → ℕ → Result Declared Refusal
add_existential known d w v p =
    cond (nat_le 4096 d.existentials) (Err (refused 5 p 2))
    (and_then (fresh known d.table v p)
    (λ _. Ok (record { universals = d.universals; existentials = d.existentials + 1; table = slice_set d.table (v - 1) (record { kind = kind.Existential; position = d.existentials + 1; dependencies = w }) })))

abbrev pub with_dependency : Variable → ℕ → Variable
with_dependency x k = record { kind = x.kind; position = x.position; dependencies = union_word x.dependencies (single_word k) }

-- the existential v depends on the universal u too
abbrev pub add_dependency : ℕ → Declared → ℕ → ℕ → ℕ → Result Declared Refusal
add_dependency known d v u p =
    cond (u == 0 || nat_lt known u) (Err (refused 6 p 2))
    (cond (not (is_universal (variable_at d.table u).kind)) (Err (refused 6 p 2))
    (cond (has_bit (variable_at d.table v).dependencies (variable_at d.table u).position) (Err (refused 7 p 2))
    (Ok (record { universals = d.universals; existentials = d.existentials; table = slice_set d.table (v - 1) (with_dependency (variable_at d.table v) (variable_at d.table u).position) }))))

-- v is declared under a quantifier; an existential so declared depends on every universal declared so far
abbrev pub add_listed : Quantifier → ℕ → Declared → ℕ → ℕ → Result Declared Refusal
add_listed quantifier.Universal known d v p = add_universal known d v p
add_listed quantifier.Existential known d v p = add_existential known d (first_word d.universals) v p

-- v is declared in a group; one with dependencies of its own has none yet
abbrev pub add_in : Group → ℕ → Declared → ℕ → ℕ → Result Declared Refusal
add_in (group.Listed q) known d v p = add_listed q known d v p
add_in group.Dependent known d v p = add_existential known d empty_word v p

-- the group that a word of letters begins
abbrev pub group_in : List ℕ → Option Group
group_in bs =
    cond (length bs == 1)
    (cond (slice_index bs 0 == 97) (Some (group.Listed quantifier.Universal))
    (cond (slice_index bs 0 == 101) (Some (group.Listed quantifier.Existential)) (cond (slice_index bs 0 == 100) (Some group.Dependent) None)))
    None

-- the group that a word begins
abbrev pub begun : Spelt → Option Group
begun (letter bs p) = group_in bs
begun (number bs p n) = None
begun (other bs p) = None

-- Where the reading of the groups stands: outside of them, in a list of variables under a quantifier, before the
-- variable that a `d` group declares, or among the dependencies of a variable.
pub data Where : Type 0 where
  outside : Where
  listed : Quantifier → Where
  dependent : Where
  dependencies : ℕ → Where

abbrev pub inside : Group → Where
inside (group.Listed q) = listed q
inside group.Dependent = dependent

abbrev pub on_group : {X : Type 0} → Option Group → X → (Group → X) → X
on_group None x f = x
on_group (Some g) x f = f g

-- The groups from where the reading stands, up to the first word that begins none.
abbrev pub groups_from : ℕ → Where → Declared → List Spelt → ℕ → ℕ → Got Declared
groups_from known outside d [] q size = Ok (d, [], q)
groups_from known outside d (w ∷ ws) q size = on_group (begun w) (Ok (d, w ∷ ws, q)) (λ g. groups_from known (inside g) d ws (end_of w) size)
groups_from known (listed quantifier) d [] q size = Err (text_ends size)
groups_from known (listed quantifier) d (w ∷ ws) q size =
    and_then (number_in w)
    (λ v. cond (v == 0) (groups_from known outside d ws (end_of w) size)
    (and_then (add_listed quantifier known d v (start_of w)) (λ d'. groups_from known (listed quantifier) d' ws (end_of w) size)))
groups_from known dependent d [] q size = Err (text_ends size)
groups_from known dependent d (w ∷ ws) q size =
    and_then (number_in w) (λ v. and_then (add_existential known d empty_word v (start_of w)) (λ d'. groups_from known (dependencies v) d' ws (end_of w) size))
groups_from known (dependencies v) d [] q size = Err (text_ends size)
groups_from known (dependencies v) d (w ∷ ws) q size =
    and_then (number_in w)
    (λ u. cond (u == 0) (groups_from known outside d ws (end_of w) size)
    (and_then (add_dependency known d v u (start_of w)) (λ d'. groups_from known (dependencies v) d' ws (end_of w) size)))

-- the groups of a text from a place on, over the table of the formula's variables
abbrev pub groups_at : List ℕ → ℕ → Where → Declared → Got Declared
groups_at text p m d = groups_from (length d.table) m d (words_from text p) p (length text)

-- what follows a part that was read; a refusal goes through unchanged
abbrev pub followed : {X Y : Type 0} → Result X Fault → (X → Result Y Refusal) → Result Y Refusal
followed (Ok x) f = f x
followed (Err e) f = Err (told e)

abbrev pub begins : List Spelt → Option Group
begins [] = None
begins (w ∷ ws) = begun w

-- the first of these words begins a group and is behind the place; or none, and the place is as it was
abbrev pub Begins : Option Group → List Spelt → List Spelt → ℕ → ℕ → ℕ → Type 0
Begins (Some g) was is p q size = (w : Spelt) × (was ≡ w ∷ is) × (begun w ≡ Some g) × (q ≡ end_of w) × Further p q size
Begins None was is p q size = (begins was ≡ None) × (q ≡ p)

abbrev pub nothing_declared : List Variable → Declared
nothing_declared vs = record { universals = 0; existentials = 0; table = vs }
