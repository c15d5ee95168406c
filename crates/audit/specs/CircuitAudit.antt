-- Circuit tables that an accepted reading leaves.
use Rattle.std.specs.Prelude.{◌≡◌, ℕ, ◌+◌, ◌*◌, ◌<◌, Bool, ◌&&◌, List, length, take, drop, Ok, ◌==◌, nat_le, nat_lt}
use Rattle.std.specs.List.{AllByRecursion, enumerate_from, list_all}
use Rattle.words.specs.Words.{words_from}
use Rattle.words.specs.Tables.{padded}
use Rattle.circuit.specs.declared.tables.CircuitHead.{CircuitHead}
use Rattle.circuit.specs.declared.tables.Gate.{Gate}
use Rattle.circuit.specs.Reading.{Circuit, no_gate, parts_from}

-- what the audit computes: limits, literals in range, zeros behind the entries
abbrev pub counts_lawful : CircuitHead → ℕ → ℕ → Bool
counts_lawful h outputs gates =
    nat_le h.inputs 64 && nat_le h.wires 60000 && nat_le h.outputs 4096 && nat_le h.gates 60000 && h.wires == h.inputs + h.gates
    && nat_le h.outputs outputs && nat_le h.gates gates

abbrev pub outputs_lawful : ℕ → List ℕ → Bool
outputs_lawful bound os = list_all (λ o. nat_lt o bound) os

-- a gate with its number, from 0, has right literals below its own, which for the first gate is 2(i + 1)
abbrev pub below_own : ℕ → ℕ × Gate → Bool
below_own i p = nat_lt p.1.left (2 * (i + p.0 + 1)) && nat_lt p.1.right (2 * (i + p.0 + 1))

abbrev pub gates_lawful : ℕ → List Gate → Bool
gates_lawful i gs = list_all (below_own i) (enumerate_from 0 gs)

abbrev pub zero_outputs : List ℕ → Bool
zero_outputs os = list_all (λ o. o == 0) os

abbrev pub zero_gate : Gate → Bool
zero_gate g = g.left == 0 && g.right == 0

abbrev pub zero_gates : List Gate → Bool
zero_gates gs = list_all zero_gate gs

abbrev pub circuit_lawful : CircuitHead → List ℕ → List Gate → Bool
circuit_lawful h os gs =
    counts_lawful h (length os) (length gs)
    && outputs_lawful (2 * h.wires + 2) (take h.outputs os)
    && zero_outputs (drop h.outputs os)
    && gates_lawful h.inputs (take h.gates gs)
    && zero_gates (drop h.gates gs)

-- A reading of this text from this place, its length set aside, is accepted and leaves this head and these tables.
pub record LeavesCircuit (text : List ℕ) (place : ℕ) (h : CircuitHead) (os : List ℕ) (gs : List Gate) : Type 0 where
  pub bytes : AllByRecursion (λ b. b < 256) text
  pub circuit : Circuit
  pub accepted : parts_from (words_from text place) (length os) (length gs) (length text) ≡ Ok circuit
  pub head : h ≡ circuit.head
  pub outputs : os ≡ padded 0 circuit.outputs (length os)
  pub gates : gs ≡ padded no_gate circuit.gates (length gs)

abbrev pub LeftByACircuitText : CircuitHead → List ℕ → List Gate → Type 0
LeftByACircuitText h os gs = (text : List ℕ) × (place : ℕ) × LeavesCircuit text place h os gs
