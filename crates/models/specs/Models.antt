-- When a dependency quantified Boolean formula is true. A model is a function for each existential, of the universals that it
-- may depend on alone, such that every clause is true under every assignment of the universals.
use Rattle.std.specs.Prelude.{◌≡◌, ℕ, ◌-◌, ◌≤◌, Bool, true, false, cond, not, ◌||◌, List, [], ◌∷◌, length, ◌==◌, slice_index, refl}
use Rattle.std.specs.List.{AllByRecursion}
use Rattle.base.specs.declared.values.ValueWord.{ValueWord}
use Rattle.base.specs.Words.{has_bit}
use Rattle.formula.specs.declared.tables.Literal.{Literal}
use Rattle.spelling.specs.Dqbf.{Declaration, universal, existential, Dqbf, universals_of}

-- a value for each universal variable (what it gives to other numbers does not matter)
abbrev pub Assignment : Type 0
Assignment = ℕ → Bool

-- for each existential variable, a function of the assignment
abbrev pub Functions : Type 0
Functions = ℕ → Assignment → Bool

-- a value, turned over where a literal is negative
abbrev pub signed : Bool → Bool → Bool
signed negative value = cond negative (not value) value

pub signed_other : (negative value : Bool) → signed (not negative) value ≡ not (signed negative value)
signed_other true true = refl
signed_other true false = refl
signed_other false true = refl
signed_other false false = refl

-- the value of a declared variable: of a universal the assignment's, of an existential its function's
abbrev pub value_of : List Declaration → Functions → Assignment → ℕ → Bool
value_of [] F σ v = false
value_of (universal u ∷ ds) F σ v = cond (u == v) (σ v) (value_of ds F σ v)
value_of (existential y d ∷ ds) F σ v = cond (y == v) (F v σ) (value_of ds F σ v)

abbrev pub literal_value : Dqbf → Functions → Assignment → Literal → Bool
literal_value f F σ l = signed l.negative (value_of f.prefix F σ l.variable)

-- a clause is true if one of its literals is
abbrev pub clause_value : Dqbf → Functions → Assignment → List Literal → Bool
clause_value f F σ [] = false
clause_value f F σ (l ∷ ls) = literal_value f F σ l || clause_value f F σ ls

-- the k-th universal in order of declaration, from 1
abbrev pub universal_at : List Declaration → ℕ → ℕ
universal_at prefix k = slice_index (universals_of prefix) (k - 1)

-- two assignments give the same values to the universals of a set of dependencies
abbrev pub Agree : List Declaration → ValueWord → Assignment → Assignment → Type 0
Agree prefix d σ τ =
    (k : ℕ) → 1 ≤ k → k ≤ length (universals_of prefix) → has_bit d k ≡ true → σ (universal_at prefix k) ≡ τ (universal_at prefix k)

-- an existential's function depends on its dependencies alone
abbrev pub DependsOnAllowed : List Declaration → Functions → Declaration → Type 0
DependsOnAllowed prefix F (universal u) = Unit {0}
DependsOnAllowed prefix F (existential y d) = (σ τ : Assignment) → Agree prefix d σ τ → F y σ ≡ F y τ

pub record IsModel (f : Dqbf) (F : Functions) : Type 0 where
  pub allowed : AllByRecursion (DependsOnAllowed f.prefix F) f.prefix
  pub satisfies : (σ : Assignment) → AllByRecursion (λ c. clause_value f F σ c ≡ true) f.matrix

-- the formula is true: it has a model
abbrev pub TrueFormula : Dqbf → Type 0
TrueFormula f = (F : Functions) × IsModel f F

-- the formula is false: no functions are a model
abbrev pub FalseFormula : Dqbf → Type 0
FalseFormula f = (F : Functions) → IsModel f F → ⊥
