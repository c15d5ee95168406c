-- The entry of a literal of the wires has, in a circuit's world, that literal's value.
use Rattle.std.proofs.Common.{◌≡◌, ℕ, ◌+◌, ◌-◌, ◌*◌, ◌/◌, ◌%◌, ◌<◌, ◌≤◌, Bool, true, false, cond, eqb, leb, [], refl, ap, ◌∙◌, ap₂, arith}
use Rattle.std.proofs.lemmas.Bool.{cond-false, cond-true, le-leb, lt-leb}
use Rattle.spelling.specs.CircuitGrammar.{Aig, wires_of}
use Rattle.models.specs.CircuitValues.{Inputs, wire_value, gate_values, circuit_literal, output_value}
use Rattle.models.specs.Models.{signed}
use Rattle.gates.specs.CircuitWorlds.{world_wire, world_value}
use Rattle.gates.specs.Wiring.{wire_entry}

-- the value of a wire of the circuit
abbrev pub circuit_wire : Aig → Inputs → ℕ → Bool
circuit_wire c α w = wire_value c.inputs α (gate_values c.inputs α [] c.gates) w

module _ (c : Aig) (α : Inputs) where
  -- a literal by its wire and its sign
  at_parts : (value : ℕ → Bool) (n w : ℕ) (negative : Bool) → n ≡ 2 * w + cond negative 1 0 → signed (eqb (n % 2) 1) (value (n / 2)) ≡ signed negative (value w)
  at_parts value n w true e =
      let rest : n % 2 ≡ 1 = omega arith in
      let half : n / 2 ≡ w = omega arith in
      ap₂ (λ r h. signed (eqb r 1) (value h)) rest half
  at_parts value n w false e =
      let rest : n % 2 ≡ 0 = omega arith in
      let half : n / 2 ≡ w = omega arith in
      ap₂ (λ r h. signed (eqb r 1) (value h)) rest half

  -- an even literal is its wire
  pub even_literal : (w : ℕ) → circuit_literal c α (2 * w) ≡ circuit_wire c α w
  even_literal w = at_parts (circuit_wire c α) (2 * w) w false (omega arith)

  -- wires up to the largest are the circuit's, and those behind it the outputs
  pub low_wire : (w : ℕ) → w ≤ wires_of c → world_wire c α w ≡ circuit_wire c α w
  low_wire w h = cond-true (leb w (wires_of c)) _ _ (le-leb w (wires_of c) h) ∙ even_literal w

  pub high_wire : (k : ℕ) → 1 ≤ k → world_wire c α (wires_of c + k) ≡ output_value c α k
  high_wire k h =
      let m = wires_of c in
      let at : m + k - m ≡ k = omega arith in
      cond-false (leb (m + k) m) _ _ (lt-leb (m + k) m (omega arith)) ∙ ap (output_value c α) at

  -- codes of four bytes
  code_value : (n : ℕ) → n < 4294967296 → world_value c α (wire_entry n) ≡ signed (eqb (n % 2) 1) (world_wire c α (n / 2))
  code_value n h =
      let same : n % 4294967296 ≡ n = omega arith in
      ap (λ m. signed (eqb (m % 2) 1) (world_wire c α (m / 2))) same

  code_bound : (w : ℕ) (negative : Bool) → w < 2147483648 → 2 * w + cond negative 1 0 < 4294967296
  code_bound w true h = omega arith
  code_bound w false h = omega arith

  -- the entry of a wire or of its negation
  pub signed_value : (w : ℕ) (negative : Bool) → w < 2147483648 → world_value c α (wire_entry (2 * w + cond negative 1 0)) ≡ signed negative (world_wire c α w)
  signed_value w negative h =
      let n = 2 * w + cond negative 1 0 in
      code_value n (code_bound w negative h) ∙ at_parts (world_wire c α) n w negative refl

  -- the entry of a wire itself
  pub even_value : (w : ℕ) → 2 * w < 4294967296 → world_value c α (wire_entry (2 * w)) ≡ world_wire c α w
  even_value w h = code_value (2 * w) h ∙ at_parts (world_wire c α) (2 * w) w false (omega arith)

  -- the entry of a literal of the circuit
  pub low_value : (n : ℕ) → wires_of c ≤ 60000 → n ≤ 2 * wires_of c + 1 → world_value c α (wire_entry n) ≡ circuit_literal c α n
  low_value n few h =
      code_value n (omega arith) ∙ ap (signed (eqb (n % 2) 1)) (low_wire (n / 2) (omega arith))
