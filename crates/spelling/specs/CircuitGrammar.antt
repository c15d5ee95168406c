-- Circuits of and-gates, and the grammar of circuit texts as a relation between words and circuits.
use Rattle.std.specs.Prelude.{ℕ, zero, suc, ◌+◌, ◌*◌, ◌<◌, ◌≤◌, List, [], ◌∷◌, ◌++◌, length, codes}
use Rattle.std.specs.List.{AllByRecursion}
use Rattle.words.specs.Words.{Spelt}
use Rattle.circuit.specs.declared.tables.Gate.{Gate}
use Rattle.spelling.specs.FormulaGrammar.{Name, Number}

-- An and-inverter graph: how many inputs it has, its outputs as literals, and each gate's two right literals.
pub record Aig : Type 0 where
  pub inputs : ℕ
  pub outputs : List ℕ
  pub gates : List Gate

-- the largest wire
abbrev pub wires_of : Aig → ℕ
wires_of c = c.inputs + length c.gates

-- each gate's right literals are below its own, the first gate's own being 2(i + 1)
abbrev pub OrderedFrom : ℕ → List Gate → Type 0
OrderedFrom i [] = Unit {0}
OrderedFrom i (g ∷ gs) = (g.left < 2 * (i + 1)) × (g.right < 2 * (i + 1)) × OrderedFrom (i + 1) gs

-- A circuit within the limits: at most 64 inputs, 4,096 outputs and 60,000 wires; every literal is one of a wire,
-- and each gate's right literals are smaller than its own.
pub record LawfulCircuit (c : Aig) : Type 0 where
  pub few_inputs : c.inputs ≤ 64
  pub few_outputs : length c.outputs ≤ 4096
  pub few_wires : wires_of c ≤ 60000
  pub outputs : AllByRecursion (λ o. o ≤ 2 * wires_of c + 1) c.outputs
  pub ordered : OrderedFrom c.inputs c.gates

-- the literals of n inputs, the first being number i
abbrev pub input_literals : ℕ → ℕ → List ℕ
input_literals i zero = []
input_literals i (suc n) = 2 * i ∷ input_literals (i + 1) n

-- the literals of gates: each gate's own literal, the first being 2(i + 1), and its two right ones
abbrev pub gate_literals : ℕ → List Gate → List ℕ
gate_literals i [] = []
gate_literals i (g ∷ gs) = 2 * (i + 1) ∷ g.left ∷ g.right ∷ gate_literals (i + 1) gs

-- Words that are the numbers of a list; then the words that are left.
pub data Numbers : List Spelt → List ℕ → List Spelt → Type 0 where
  none : {ws : List Spelt} → Numbers ws [] ws
  more : {w : Spelt} {ws rest : List Spelt} {n : ℕ} {ns : List ℕ} → Number w n → Numbers ws ns rest → Numbers (w ∷ ws) (n ∷ ns) rest

-- the numbers of a circuit's text: M I L O A, the inputs, the outputs and the gates
abbrev pub numbers_of : Aig → List ℕ
numbers_of c =
    wires_of c ∷ c.inputs ∷ 0 ∷ length c.outputs ∷ length c.gates
    ∷ (input_literals 1 c.inputs ++ (c.outputs ++ gate_literals c.inputs c.gates))

-- Words that spell a circuit: `aag` and its numbers.
pub data SpellsCircuit : List Spelt → Aig → List Spelt → Type 0 where
  spells : {w : Spelt} {ws rest : List Spelt} {c : Aig} → Name w (codes "aag") → Numbers ws (numbers_of c) rest → SpellsCircuit (w ∷ ws) c rest
