-- The grammar of formula texts, as a relation between words and formulas.
use Rattle.std.specs.Prelude.{◌≡◌, ℕ, ◌-◌, ◌^◌, ◌<◌, Bool, true, false, ◌&&◌, List, [], ◌∷◌, ◌++◌, map, length, codes, nat_le, slice_index}
use Rattle.std.specs.List.{AllByRecursion}
use Rattle.base.specs.declared.values.ValueWord.{ValueWord}
use Rattle.base.specs.Words.{has_bit, first_word}
use Rattle.words.specs.Words.{Spelt, letter, number, other}
use Rattle.formula.specs.declared.tables.Literal.{Literal}
use Rattle.spelling.specs.Dqbf.{Declaration, universal, existential, Dqbf, universals_of, member, Distinct}

-- the word is this name
abbrev pub Name : Spelt → List ℕ → Type 0
Name (letter bs p) name = bs ≡ name
Name (number bs p n) name = ⊥
Name (other bs p) name = ⊥

-- the word is this number, with its sign
abbrev pub Signed : Spelt → Bool → ℕ → Type 0
Signed (letter bs p) negative n = ⊥
Signed (number bs p m) negative n = (m.negative ≡ negative) × (m.value ≡ n)
Signed (other bs p) negative n = ⊥

abbrev pub Number : Spelt → ℕ → Type 0
Number w n = Signed w false n

-- Words that are the numbers of a list, none of them 0, and a 0 behind them; then the words that are left.
pub data Listing : List Spelt → List ℕ → List Spelt → Type 0 where
  ends : {w : Spelt} {ws : List Spelt} → Number w 0 → Listing (w ∷ ws) [] ws
  goes : {w : Spelt} {ws rest : List Spelt} {n : ℕ} {ns : List ℕ} → Number w n → 0 < n → Listing ws ns rest → Listing (w ∷ ws) (n ∷ ns) rest

-- A set of dependencies that has exactly the positions of these universals.
pub record Depends (universals us : List ℕ) (d : ValueWord) : Type 0 where
  pub distinct : Distinct us
  pub declared : AllByRecursion (λ u. member u universals ≡ true) us
  pub bound : d.bits < 2 ^ 64
  pub positions : (k : ℕ) → has_bit d k ≡ (nat_le 1 k && nat_le k (length universals) && member (slice_index universals (k - 1)) us)

-- Groups that extend a prefix: `a` declares universals; `e` declares existentials that depend on every universal
-- declared so far; `d` declares its first variable as an existential that depends on the universals behind it.
pub data Groups : List Declaration → List Spelt → List Declaration → List Spelt → Type 0 where
  none : {prefix : List Declaration} {ws : List Spelt} → Groups prefix ws prefix ws
  a_group : {w : Spelt} {ws mid rest : List Spelt} {prefix all : List Declaration} {vs : List ℕ} → Name w (codes "a") → Listing ws vs mid → Groups (prefix ++ map universal vs) mid all rest → Groups prefix (w ∷ ws) all rest
  e_group : {w : Spelt} {ws mid rest : List Spelt} {prefix all : List Declaration} {vs : List ℕ} → Name w (codes "e") → Listing ws vs mid → Groups (prefix ++ map (λ v. existential v (first_word (length (universals_of prefix)))) vs) mid all rest → Groups prefix (w ∷ ws) all rest
  d_group : {w x : Spelt} {ws mid rest : List Spelt} {prefix all : List Declaration} (v : ℕ) {us : List ℕ} {d : ValueWord} → Name w (codes "d") → Number x v → Listing ws us mid → Depends (universals_of prefix) us d → Groups (prefix ++ existential v d ∷ []) mid all rest → Groups prefix (w ∷ x ∷ ws) all rest

-- the next word, if there is one, begins no group
abbrev pub Stops : List Spelt → Type 0
Stops [] = Unit {0}
Stops (w ∷ ws) = (Name w (codes "a") → ⊥) × (Name w (codes "e") → ⊥) × (Name w (codes "d") → ⊥)

-- Words that are the literals of a clause and a 0 behind them; then the words that are left.
pub data ClauseText : List Spelt → List Literal → List Spelt → Type 0 where
  ends : {w : Spelt} {ws : List Spelt} → Number w 0 → ClauseText (w ∷ ws) [] ws
  goes : {w : Spelt} {ws rest : List Spelt} {l : Literal} {ls : List Literal} → Signed w l.negative l.variable → 0 < l.variable → ClauseText ws ls rest → ClauseText (w ∷ ws) (l ∷ ls) rest

pub data MatrixText : List Spelt → List (List Literal) → List Spelt → Type 0 where
  none : {ws : List Spelt} → MatrixText ws [] ws
  more : {ws mid rest : List Spelt} {c : List Literal} {cs : List (List Literal)} → ClauseText ws c mid → MatrixText mid cs rest → MatrixText ws (c ∷ cs) rest

-- Words that spell a formula: `p cnf V C`, groups up to the first word that begins none, and C clauses.
pub data Spells : List Spelt → Dqbf → List Spelt → Type 0 where
  spells : {p cnf v c : Spelt} {ws mid rest : List Spelt} {f : Dqbf} → Name p (codes "p") → Name cnf (codes "cnf") → Number v f.variables → Number c (length f.matrix) → Groups [] ws f.prefix mid → Stops mid → MatrixText mid f.matrix rest → Spells (p ∷ cnf ∷ v ∷ c ∷ ws) f rest
