-- A reading accepts exactly what spells a lawful circuit that fits the tables, and leaves that circuit in them.
use Rattle.std.specs.Prelude.{◌≡◌, ℕ, ◌≤◌, List, length, Ok, Err, Result}
use Rattle.base.specs.declared.faults.Fault.{Fault}
use Rattle.words.specs.Words.{Spelt, words_from}
use Rattle.words.specs.Tables.{padded}
use Rattle.circuit.specs.declared.tables.CircuitHead.{CircuitHead}
use Rattle.circuit.specs.declared.tables.Gate.{Gate}
use Rattle.circuit.specs.Reading.{no_gate}
use Rattle.spelling.specs.CircuitGrammar.{Aig, wires_of, LawfulCircuit, SpellsCircuit}
use Rattle.spelling.specs.FormulaLaw.{Behind}

-- the tables and the head hold the circuit, and zeros everywhere else
pub record HoldsCircuit (c : Aig) (h : CircuitHead) (os : List ℕ) (gs : List Gate) : Type 0 where
  pub head : h ≡ record { wires = wires_of c; inputs = c.inputs; outputs = length c.outputs; gates = length c.gates }
  pub outputs : os ≡ padded 0 c.outputs (length os)
  pub gates : gs ≡ padded no_gate c.gates (length gs)

-- What a reading's answer says of the words from its place on, where the tables then are os and gs and the place q.
abbrev pub AcceptsCircuit : List ℕ → ℕ → Result CircuitHead Fault → List ℕ → List Gate → ℕ → Type 0
AcceptsCircuit text p (Ok h) os gs q =
    (c : Aig) × (rest : List Spelt) × (length text ≤ 16777216) × SpellsCircuit (words_from text p) c rest × LawfulCircuit c
    × (length c.outputs ≤ length os) × (length c.gates ≤ length gs) × HoldsCircuit c h os gs × Behind (words_from text p) rest q
AcceptsCircuit text p (Err e) os gs q =
    (c : Aig) (rest : List Spelt) → length text ≤ 16777216 → SpellsCircuit (words_from text p) c rest → LawfulCircuit c →
    length c.outputs ≤ length os → length c.gates ≤ length gs → ⊥
