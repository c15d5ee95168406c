-- The reach of a wire, and the paths of gates that it stands for.
use Rattle.std.specs.Prelude.{◌≡◌, ℕ, ◌+◌, ◌-◌, ◌*◌, ◌/◌, ◌<◌, ◌≤◌, Bool, true, cond, ◌&&◌, List, [], ◌∷◌, ◌++◌, length, take, replicate, Decides, nat_le, slice_index_or}
use Rattle.base.specs.declared.values.ValueWord.{ValueWord}
use Rattle.base.specs.Words.{empty_word, single_word, union_word, has_bit}
use Rattle.circuit.specs.declared.tables.CircuitHead.{CircuitHead}
use Rattle.circuit.specs.declared.tables.Gate.{Gate}
use Rattle.words.specs.Tables.{padded}
use Rattle.circuit.specs.Reading.{no_gate}

-- the reach of a wire of a circuit with i inputs, from the reaches of its gates
abbrev pub wire_reach : ℕ → List ValueWord → ℕ → ValueWord
wire_reach i reaches w = cond (nat_le w i) (single_word w) (slice_index_or reaches (w - i - 1) empty_word)

-- the reaches of gates behind those that are worked out: the union of the two right wires' reaches
abbrev pub reaches_from : ℕ → List ValueWord → List Gate → List ValueWord
reaches_from i done [] = done
reaches_from i done (g ∷ gs) =
    reaches_from i (done ++ union_word (wire_reach i done (g.left / 2)) (wire_reach i done (g.right / 2)) ∷ []) gs

-- the gates of a head's count are there, and the table of reaches has room for them
abbrev pub fills : CircuitHead → List Gate → ℕ → Bool
fills head gates room = nat_le head.gates (length gates) && nat_le head.gates room

abbrev pub reaches_table : CircuitHead → List Gate → ℕ → List ValueWord
reaches_table head gates room =
    cond (fills head gates room) (padded empty_word (reaches_from head.inputs [] (take head.gates gates)) room) (replicate room empty_word)

-- A path of gates from a wire down to a wire: each step goes from a gate to one of its two right wires.
pub data Leads (i : ℕ) (gates : List Gate) : ℕ → ℕ → Type 0 where
  here : {w : ℕ} → Leads i gates w w
  left : {g w : ℕ} → g < length gates → Leads i gates ((slice_index_or gates g no_gate).left / 2) w → Leads i gates (i + 1 + g) w
  right : {g w : ℕ} → g < length gates → Leads i gates ((slice_index_or gates g no_gate).right / 2) w → Leads i gates (i + 1 + g) w

-- each gate's right literals are smaller than its own literal
abbrev pub Ordered : ℕ → List Gate → Type 0
Ordered i gates =
    (g : ℕ) → g < length gates →
    ((slice_index_or gates g no_gate).left < 2 * (i + 1 + g)) × ((slice_index_or gates g no_gate).right < 2 * (i + 1 + g))

-- Of an ordered circuit with at most 64 inputs, each wire's reach has input k exactly if a path of gates leads to it.
abbrev pub Paths : CircuitHead → List Gate → List ValueWord → Type 0
Paths head gates reaches =
    fills head gates (length reaches) ≡ true → head.inputs ≤ 64 → Ordered head.inputs (take head.gates gates) →
    (w k : ℕ) → w ≤ head.inputs + head.gates → 1 ≤ k → k ≤ head.inputs →
    Decides (has_bit (wire_reach head.inputs reaches w) k) (Leads head.inputs (take head.gates gates) w k)
