-- Dependency quantified Boolean formulas: a prefix of declarations and a matrix of clauses.
use Rattle.std.specs.Prelude.{◌≡◌, ℕ, ◌+◌, ◌≤◌, Bool, true, false, cond, ◌||◌, List, [], ◌∷◌, ◌++◌, map, length, ◌==◌}
use Rattle.std.specs.List.{AllByRecursion}
use Rattle.base.specs.declared.values.ValueWord.{ValueWord}
use Rattle.base.specs.Words.{empty_word}
use Rattle.formula.specs.declared.tables.Clause.{Clause}
use Rattle.formula.specs.declared.tables.Kind.TheVariants as kind
use Rattle.formula.specs.declared.tables.Literal.{Literal}
use Rattle.formula.specs.declared.tables.Variable.{Variable}
use Rattle.formula.specs.Groups.{no_variable}

-- A variable is declared as a universal, or as an existential with the set of universals that it may depend on:
-- position k is in the set where it may depend on the k-th universal.
pub data Declaration : Type 0 where
  universal : ℕ → Declaration
  existential : ℕ → ValueWord → Declaration

pub record Dqbf : Type 0 where
  -- how many variables there are: 1 to this number
  pub variables : ℕ
  -- the declarations, in their order
  pub prefix : List Declaration
  pub matrix : List (List Literal)

abbrev pub variable_of : Declaration → ℕ
variable_of (universal v) = v
variable_of (existential v w) = v

-- the universals, in order of declaration
abbrev pub universals_of : List Declaration → List ℕ
universals_of [] = []
universals_of (universal v ∷ ds) = v ∷ universals_of ds
universals_of (existential v w ∷ ds) = universals_of ds

-- the existentials, in order of declaration
abbrev pub existentials_of : List Declaration → List ℕ
existentials_of [] = []
existentials_of (universal v ∷ ds) = existentials_of ds
existentials_of (existential v w ∷ ds) = v ∷ existentials_of ds

-- whether a number stands in a list
abbrev pub member : ℕ → List ℕ → Bool
member v [] = false
member v (x ∷ xs) = x == v || member v xs

-- no number stands twice in a list
abbrev pub Distinct : List ℕ → Type 0
Distinct [] = Unit {0}
Distinct (x ∷ xs) = (member x xs ≡ false) × Distinct xs

abbrev pub literal_variable : Literal → ℕ
literal_variable l = l.variable

-- a clause over declared variables, none of which it names twice
abbrev pub LawfulClause : List ℕ → List Literal → Type 0
LawfulClause declared c =
    (length c ≤ 1024) × Distinct (map literal_variable c) × AllByRecursion (λ l. member l.variable declared ≡ true) c

-- A formula within the limits: at most 65,535 variables, 16,384 clauses, 64 universals, 4,096 existentials and
-- 1,024 literals a clause; no variable is declared twice, and clauses name declared variables, each once.
pub record Lawful (f : Dqbf) : Type 0 where
  pub some_variable : 1 ≤ f.variables
  pub few_variables : f.variables ≤ 65535
  pub few_clauses : length f.matrix ≤ 16384
  pub few_universals : length (universals_of f.prefix) ≤ 64
  pub few_existentials : length (existentials_of f.prefix) ≤ 4096
  pub in_range : AllByRecursion (λ d. (1 ≤ variable_of d) × (variable_of d ≤ f.variables)) f.prefix
  pub once : Distinct (map variable_of f.prefix)
  pub clauses : AllByRecursion (LawfulClause (map variable_of f.prefix)) f.matrix

-- the record of variable v, where n universals and e existentials were declared before
abbrev pub record_from : ℕ → ℕ → ℕ → List Declaration → Variable
record_from v n e [] = no_variable
record_from v n e (universal u ∷ ds) =
    cond (u == v) (record { kind = kind.Universal; position = n + 1; dependencies = empty_word }) (record_from v (n + 1) e ds)
record_from v n e (existential u w ∷ ds) =
    cond (u == v) (record { kind = kind.Existential; position = e + 1; dependencies = w }) (record_from v n (e + 1) ds)

-- the record of variable v: its kind, its position among those of its kind, and its dependencies
abbrev pub record_of : List Declaration → ℕ → Variable
record_of prefix v = record_from v 0 0 prefix

-- the literals of all clauses, one clause behind the other
abbrev pub literals_of : List (List Literal) → List Literal
literals_of [] = []
literals_of (c ∷ cs) = c ++ literals_of cs

-- where each clause stands among them, the first at this index
abbrev pub spans_from : ℕ → List (List Literal) → List Clause
spans_from at [] = []
spans_from at (c ∷ cs) = record { first = at; len = length c } ∷ spans_from (at + length c) cs
