-- What the reader of circuit texts answers, by recursion on the counts over the words that are left.
use Rattle.std.specs.Prelude.{◌≡◌, ℕ, zero, suc, ◌+◌, ◌*◌, ◌≤◌, Bool, cond, not, List, [], ◌∷◌, ◌++◌, length, take, replicate, Ok, Err, Result, ◌==◌, nat_lt}
use Rattle.base.specs.declared.faults.Fault.{Fault}
use Rattle.base.specs.Causes.{Refusal, told, refused, answered}
use Rattle.words.specs.Words.{Spelt, words_from}
use Rattle.words.specs.Due.{Got, and_then, number_from, name_from, unless_long}
use Rattle.words.specs.Tables.{padded, Kept}
use Rattle.circuit.specs.declared.tables.CircuitHead.{CircuitHead}
use Rattle.circuit.specs.declared.tables.Gate.{Gate}

abbrev pub no_gate : Gate
no_gate = record { left = 0; right = 0 }

-- a literal that has to be this one
abbrev pub exact_from : ℕ → List Spelt → ℕ → Got (Unit {0})
exact_from due ws size =
    and_then (number_from ws size) (λ g. cond (g.0.0 == due) (Ok (tt, g.1, g.2)) (Err (refused 10 g.0.1 3)))

-- a literal that has to be below a bound
abbrev pub below_from : ℕ → List Spelt → ℕ → Got ℕ
below_from bound ws size =
    and_then (number_from ws size) (λ g. cond (nat_lt g.0.0 bound) (Ok (g.0.0, g.1, g.2)) (Err (refused 10 g.0.1 3)))

-- a count, refused by the given rule at its place
abbrev pub count_from : (ℕ → ℕ → Result ℕ Refusal) → List Spelt → ℕ → Got ℕ
count_from rule ws size = and_then (number_from ws size) (λ g. and_then (rule g.0.0 g.0.1) (λ n. Ok (n, g.1, g.2)))

abbrev pub at_most : ℕ → ℕ → ℕ → Result ℕ Refusal
at_most bound n p = cond (nat_lt bound n) (Err (refused 9 p 3)) (Ok n)

-- what a test may answer is what the rule says
abbrev pub Judges : (ℕ → Bool → Type 0) → (ℕ → Bool) → Type 0
Judges answer rule = (n : ℕ) (b : Bool) → answer n b → b ≡ rule n

-- a table's count: a table that is too short comes before a broken limit
abbrev pub table_count : ℕ → (ℕ → Bool) → ℕ → ℕ → Result ℕ Refusal
table_count room breaks n p = cond (nat_lt room n) (Err (refused 8 p 3)) (cond (breaks n) (Err (refused 9 p 3)) (Ok n))

abbrev pub header_from : List Spelt → ℕ → ℕ → ℕ → Got CircuitHead
header_from ws output_room gate_room size =
    and_then (name_from (97 ∷ 97 ∷ 103 ∷ []) ws size)
    (λ a. and_then (count_from (at_most 60000) a.1 size)
    (λ m. and_then (count_from (at_most 64) m.1 size)
    (λ i. and_then (count_from (at_most 0) i.1 size)
    (λ l. and_then (count_from (table_count output_room (λ n. nat_lt 4096 n)) l.1 size)
    (λ o. and_then (count_from (table_count gate_room (λ n. not (m.0 == i.0 + n))) o.1 size)
    (λ g. Ok (record { wires = m.0; inputs = i.0; outputs = o.0; gates = g.0 }, g.1, g.2)))))))

-- inputs from number i on: input i is the literal 2i
abbrev pub inputs_from : ℕ → ℕ → List Spelt → ℕ → ℕ → Got (Unit {0})
inputs_from zero i ws q size = Ok (tt, ws, q)
inputs_from (suc n) i ws q size = and_then (exact_from (2 * i) ws size) (λ g. inputs_from n (i + 1) g.1 g.2 size)

-- outputs of a circuit whose largest wire is m, behind those that were read
abbrev pub outputs_from : ℕ → ℕ → List ℕ → List Spelt → ℕ → ℕ → Got (List ℕ)
outputs_from m zero done ws q size = Ok (done, ws, q)
outputs_from m (suc n) done ws q size = and_then (below_from (2 * m + 2) ws size) (λ g. outputs_from m n (done ++ g.0 ∷ []) g.1 g.2 size)

-- one gate, whose own literal is given
abbrev pub gate_from : ℕ → List Spelt → ℕ → Got Gate
gate_from own ws size =
    and_then (exact_from own ws size)
    (λ o. and_then (below_from own o.1 size) (λ l. and_then (below_from own l.1 size) (λ r. Ok (record { left = l.0; right = r.0 }, r.1, r.2))))

-- gates of a circuit with i inputs, behind those that were read
abbrev pub gates_from : ℕ → ℕ → List Gate → List Spelt → ℕ → ℕ → Got (List Gate)
gates_from i zero done ws q size = Ok (done, ws, q)
gates_from i (suc n) done ws q size =
    and_then (gate_from (2 * (i + length done + 1)) ws size) (λ g. gates_from i n (done ++ g.0 ∷ []) g.1 g.2 size)

-- a table that was filled, with what is left of the text
abbrev pub told_table : {X : Type 0} → Result (Unit {0}) Fault → List X → List Spelt → ℕ → Got (List X)
told_table (Ok u) xs ws p = Ok (xs, ws, p)
told_table (Err e) xs ws p = Err (told e)

pub record Circuit : Type 0 where
  pub head : CircuitHead
  pub outputs : List ℕ
  pub gates : List Gate
  pub place : ℕ

abbrev pub parts_from : List Spelt → ℕ → ℕ → ℕ → Result Circuit Refusal
parts_from ws output_room gate_room size =
    and_then (header_from ws output_room gate_room size)
    (λ h. and_then (inputs_from h.0.inputs 1 h.1 h.2 size)
    (λ i. and_then (outputs_from h.0.wires h.0.outputs [] i.1 i.2 size)
    (λ o. and_then (gates_from h.0.inputs h.0.gates [] o.1 o.2 size)
    (λ g. Ok (record { head = h.0; outputs = o.0; gates = g.0; place = g.2 })))))

-- the circuit that tables filled from the front hold, with the place behind it
abbrev pub told_circuit : Result CircuitHead Fault → List ℕ → List Gate → ℕ → Result Circuit Refusal
told_circuit (Ok h) os gs p = Ok (record { head = h; outputs = take h.outputs os; gates = take h.gates gs; place = p })
told_circuit (Err e) os gs p = Err (told e)

-- the tables have room for the counts, and hold behind them what they held
pub record Filled (h : CircuitHead) (was is : List ℕ) (gates_were gates_are : List Gate) : Type 0 where
  pub output_room : h.outputs ≤ length was
  pub gate_room : h.gates ≤ length gates_were
  pub outputs_kept : Kept h.outputs was is
  pub gates_kept : Kept h.gates gates_were gates_are

-- the circuit that a text spells from a place on, for tables of these lengths
abbrev pub circuit_from : List ℕ → ℕ → ℕ → ℕ → Result Circuit Refusal
circuit_from text place output_room gate_room =
    unless_long (length text) (parts_from (words_from text place) output_room gate_room (length text))

abbrev pub head_read : Result Circuit Refusal → Result CircuitHead Refusal
head_read (Ok c) = Ok c.head
head_read (Err e) = Err e

abbrev pub outputs_read : Result Circuit Refusal → ℕ → List ℕ
outputs_read (Ok c) n = padded 0 c.outputs n
outputs_read (Err e) n = replicate n 0

abbrev pub gates_read : Result Circuit Refusal → ℕ → List Gate
gates_read (Ok c) n = padded no_gate c.gates n
gates_read (Err e) n = replicate n no_gate

abbrev pub place_read : Result Circuit Refusal → ℕ → ℕ
place_read (Ok c) p = c.place
place_read (Err e) p = p

-- a reader's answer, and what it leaves in the tables and the place that it was lent
pub record Agrees (c : Result Circuit Refusal) (r : Result CircuitHead Fault) (output_room : ℕ) (os : List ℕ) (gate_room : ℕ) (gs : List Gate) (p q : ℕ) : Type 0 where
  pub head : answered r ≡ head_read c
  pub outputs : os ≡ outputs_read c output_room
  pub gates : gs ≡ gates_read c gate_room
  pub place : q ≡ place_read c p
