-- The worlds of the truth side: an assignment of the inputs, with all wires worked out.
use Rattle.std.specs.Prelude.{◌≡◌, ℕ, ◌-◌, ◌*◌, ◌/◌, ◌%◌, Bool, true, cond, not, List, Ok, Err, Result, ◌==◌, bit_xor, nat_le}
use Rattle.std.proofs.Common.{ap, ◌∙◌}
use Rattle.base.specs.Causes.{Refusal}
use Rattle.clauses.specs.declared.entry.Entry.{Entry}
use Rattle.clauses.specs.Worlds.{World, complement_entry, true_in}
use Rattle.clauses.proofs.CodeLaws.{complement_half, complement_parity}
use Rattle.spelling.specs.Dqbf.{Dqbf}
use Rattle.spelling.specs.CircuitGrammar.{Aig, wires_of}
use Rattle.models.specs.CircuitValues.{Inputs, circuit_literal, output_value, ReadsAllowed}
use Rattle.models.specs.HeldTables.{RowsOfFormula, RowsOfCircuit, lawful_circuit, aig_of, Held}
use Rattle.models.specs.Models.{signed, signed_other}
use Rattle.gates.specs.Wiring.{wiring_claim}

-- wires up to M are the circuit's, wire M + k is output k
abbrev pub world_wire : Aig → Inputs → ℕ → Bool
world_wire c α w = cond (nat_le w (wires_of c)) (circuit_literal c α (2 * w)) (output_value c α (w - wires_of c))

abbrev pub world_value : Aig → Inputs → Entry → Bool
world_value c α e = signed (e.code % 2 == 1) (world_wire c α (e.code / 2))

pub world_one : (c : Aig) (α : Inputs) (e : Entry) → world_value c α (complement_entry e) ≡ not (world_value c α e)
world_one c α e =
    ap (λ (k : ℕ). signed (bit_xor e.code 1 % 2 == 1) (world_wire c α k)) (complement_half e.code)
    ∙ ap (λ (b : Bool). signed b (world_wire c α (e.code / 2))) (complement_parity e.code)
    ∙ signed_other (e.code % 2 == 1) (world_wire c α (e.code / 2))

abbrev pub circuit_world : Aig → Inputs → World
circuit_world c α = record { holds = world_value c α; one = world_one c α }

-- of a lawful circuit, a premise is true under every assignment of the inputs
abbrev pub HoldsInCircuits : RowsOfCircuit → ℕ → ℕ → ℕ → Type 0
HoldsInCircuits t class number part =
    lawful_circuit t ≡ true → (c : List Entry) → wiring_claim t class number part ≡ Ok c → (α : Inputs) → true_in (circuit_world (aig_of t) α) c ≡ true

-- where opening accepts, the circuits read only what they may, whatever formula the tables hold
abbrev pub OpensRight : Result (Unit {0}) Refusal → RowsOfFormula → RowsOfCircuit → Type 0
OpensRight (Ok u) t c = (f : Dqbf) → Held t f → ReadsAllowed f (aig_of c)
OpensRight (Err e) t c = Unit {0}
