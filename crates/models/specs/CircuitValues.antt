-- What circuits compute, and when they are right for a formula.
use Rattle.std.specs.Prelude.{◌≡◌, ℕ, ◌-◌, ◌/◌, ◌%◌, ◌≤◌, Bool, true, false, cond, ◌&&◌, List, [], ◌∷◌, ◌++◌, length, ◌==◌, nat_le, slice_index, slice_index_or}
use Rattle.base.specs.Words.{has_bit}
use Rattle.circuit.specs.declared.tables.Gate.{Gate}
use Rattle.reach.specs.Reach.{Leads}
use Rattle.spelling.specs.CircuitGrammar.{Aig}
use Rattle.spelling.specs.Dqbf.{Declaration, Dqbf, universals_of, existentials_of, record_of}
use Rattle.models.specs.Models.{Assignment, Functions, signed, universal_at, IsModel}

-- a value for each input, from 1
abbrev pub Inputs : Type 0
Inputs = ℕ → Bool

-- the value of a wire of a circuit with i inputs, from the values of its gates: wire 0 is false, wire k up to i is input k
abbrev pub wire_value : ℕ → Inputs → List Bool → ℕ → Bool
wire_value i α gates w = cond (w == 0) false (cond (nat_le w i) (α w) (slice_index_or gates (w - i - 1) false))

-- literal 2w is wire w, literal 2w + 1 its negation
abbrev pub wire_literal : ℕ → Inputs → List Bool → ℕ → Bool
wire_literal i α gates l = signed (l % 2 == 1) (wire_value i α gates (l / 2))

-- the values of gates behind those that are worked out: a gate is true exactly if both its right literals are
abbrev pub gate_values : ℕ → Inputs → List Bool → List Gate → List Bool
gate_values i α done [] = done
gate_values i α done (g ∷ gs) =
    gate_values i α (done ++ (wire_literal i α done g.left && wire_literal i α done g.right) ∷ []) gs

-- the value of a circuit's literal
abbrev pub circuit_literal : Aig → Inputs → ℕ → Bool
circuit_literal c α l = wire_literal c.inputs α (gate_values c.inputs α [] c.gates) l

-- the literal of output k, from 1
abbrev pub output_at : Aig → ℕ → ℕ
output_at c k = slice_index c.outputs (k - 1)

abbrev pub output_value : Aig → Inputs → ℕ → Bool
output_value c α k = circuit_literal c α (output_at c k)

-- input k of the circuits is the k-th universal
abbrev pub inputs_by : List Declaration → Assignment → Inputs
inputs_by prefix σ k = σ (universal_at prefix k)

-- the k-th existential's function is what output k computes
abbrev pub circuit_functions : List Declaration → Aig → Functions
circuit_functions prefix c y σ = output_value c (inputs_by prefix σ) (record_of prefix y).position

-- the k-th existential in order of declaration, from 1
abbrev pub existential_at : List Declaration → ℕ → ℕ
existential_at prefix k = slice_index (existentials_of prefix) (k - 1)

-- One input for each universal and one output for each existential, and a path of gates leads from an output only to inputs
-- that its existential may depend on.
pub record ReadsAllowed (f : Dqbf) (c : Aig) : Type 0 where
  pub inputs : c.inputs ≡ length (universals_of f.prefix)
  pub outputs : length c.outputs ≡ length (existentials_of f.prefix)
  pub reads : (k i : ℕ) → 1 ≤ k → k ≤ length c.outputs → 1 ≤ i → i ≤ c.inputs → Leads c.inputs c.gates (output_at c k / 2) i → has_bit (record_of f.prefix (existential_at f.prefix k)).dependencies i ≡ true

-- Circuits that are right for a formula: they read only what they may, and what their outputs compute is a model.
pub record RightCircuits (f : Dqbf) (c : Aig) : Type 0 where
  pub reads : ReadsAllowed f c
  pub model : IsModel f (circuit_functions f.prefix c)
