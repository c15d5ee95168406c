-- The truth side: the clauses that say what circuits compute, and the formula's clauses over their wires.
use Rattle.std.specs.Prelude.{ℕ, ◌+◌, ◌-◌, ◌*◌, ◌/◌, min, Bool, true, false, cond, not, ◌&&◌, List, [], ◌∷◌, map, filter_map, Some, None, Ok, Err, Option, Result, ◌==◌, nat_le, slice_index, slice_index_or}
use Rattle.std.specs.List.{reduce}
use Rattle.base.specs.declared.values.ValueWord.{ValueWord}
use Rattle.base.specs.Causes.{Refusal, refused}
use Rattle.base.specs.Words.{empty_word, within_word}
use Rattle.circuit.specs.Reading.{no_gate}
use Rattle.formula.specs.declared.tables.Kind.{Kind}
use Rattle.formula.specs.declared.tables.Kind.TheVariants as kind
use Rattle.formula.specs.declared.tables.Literal.{Literal}
use Rattle.formula.specs.declared.tables.Variable.{Variable}
use Rattle.formula.specs.Groups.{is_existential}
use Rattle.reach.specs.Reach.{wire_reach, reaches_table}
use Rattle.clauses.specs.declared.entry.Entry.{Entry}
use Rattle.clauses.specs.Worlds.{entry_of, complement_entry}
use Rattle.records.specs.declared.step.Premise.{Premise}
use Rattle.records.specs.declared.step.Premise.TheVariants as premise
use Rattle.models.specs.HeldTables.{RowsOfFormula, RowsOfCircuit, lawful_formula, lawful_circuit, record_at, clause_of}

-- a literal of the side: code 2w for wire w, 2w + 1 for its negation (codes have four bytes, which no lawful tables pass)
abbrev pub wire_entry : ℕ → Entry
wire_entry code = entry_of code empty_word

abbrev pub not_entry : ℕ → Entry
not_entry code = complement_entry (wire_entry code)

-- the constant: wire 0 is false
abbrev pub constant_claim : ℕ → ℕ → Result (List Entry) ℕ
constant_claim number part = cond (number == 0 && part == 1) (Ok (not_entry 0 ∷ [])) (Err 16)

-- gate a is r and s: a implies r, a implies s, and both imply a
abbrev pub gate_clauses : ℕ → ℕ → ℕ → ℕ → Result (List Entry) ℕ
gate_clauses a r s part =
    cond (part == 1) (Ok (not_entry a ∷ wire_entry r ∷ []))
    (cond (part == 2) (Ok (not_entry a ∷ wire_entry s ∷ []))
    (cond (part == 3) (Ok (wire_entry a ∷ not_entry r ∷ not_entry s ∷ [])) (Err 16)))

abbrev pub gate_claim : RowsOfCircuit → ℕ → ℕ → Result (List Entry) ℕ
gate_claim c g part =
    cond (nat_le 1 g && nat_le g c.head.gates)
    (gate_clauses (2 * (c.head.inputs + g)) (slice_index_or c.gates (g - 1) no_gate).left (slice_index_or c.gates (g - 1) no_gate).right part)
    (Err 16)

-- existential e is output o: each implies the other
abbrev pub output_clauses : ℕ → ℕ → ℕ → Result (List Entry) ℕ
output_clauses e o part =
    cond (part == 1) (Ok (not_entry e ∷ wire_entry o ∷ [])) (cond (part == 2) (Ok (wire_entry e ∷ not_entry o ∷ [])) (Err 16))

abbrev pub output_claim : RowsOfCircuit → ℕ → ℕ → Result (List Entry) ℕ
output_claim c k part =
    cond (nat_le 1 k && nat_le k c.head.outputs) (output_clauses (2 * (c.head.wires + k)) (slice_index c.outputs (k - 1)) part) (Err 16)

-- the premises: class 0 the constant, class 1 the gates, class 2 the outputs
abbrev pub wiring_claim : RowsOfCircuit → ℕ → ℕ → ℕ → Result (List Entry) ℕ
wiring_claim c class number part =
    cond (class == 0) (constant_claim number part)
    (cond (class == 1) (gate_claim c number part) (cond (class == 2) (output_claim c number part) (Err 16)))

abbrev pub truth_claim : RowsOfCircuit → Premise → Result (List Entry) ℕ
truth_claim c (premise.Truth class number part) = wiring_claim c class number part
truth_claim c (premise.Falsity j values) = Err 16

abbrev pub truth_admits : Premise → Bool
truth_admits (premise.Truth class number part) = true
truth_admits (premise.Falsity j values) = false

-- a literal of the formula over the wires: universal i is wire i, existential k is wire M + k
abbrev pub goal_code : Kind → ℕ → ℕ → Bool → ℕ
goal_code kind.Undeclared wires position negative = 0
goal_code kind.Universal wires position negative = 2 * position + cond negative 1 0
goal_code kind.Existential wires position negative = 2 * (wires + position) + cond negative 1 0

abbrev pub goal_entry : List Variable → ℕ → Literal → Entry
goal_entry vs wires l =
    wire_entry (goal_code (record_at vs l.variable).kind wires (record_at vs l.variable).position l.negative)

-- goal j is clause j
abbrev pub goal_clause : RowsOfFormula → ℕ → ℕ → List Entry
goal_clause t wires j =
    map (goal_entry t.variables wires) (clause_of t j)

-- one goal for each clause, of which no formula has more than 16,384
abbrev pub goal_number : RowsOfFormula → ℕ
goal_number t = min t.head.clauses 16384

-- the inputs that output k reads
abbrev pub output_reach : RowsOfCircuit → List ValueWord → ℕ → ValueWord
output_reach c reaches k = wire_reach c.head.inputs reaches (slice_index c.outputs (k - 1) / 2)

-- the position of an existential whose output reads an input outside its dependencies
abbrev pub leaving : RowsOfCircuit → List ValueWord → Variable → Option ℕ
leaving c reaches x =
    cond (is_existential x.kind && not (within_word (output_reach c reaches x.position) x.dependencies)) (Some x.position) None

-- the lowest of them
abbrev pub lowest_leaving : RowsOfCircuit → List ValueWord → List Variable → Option ℕ
lowest_leaving c reaches xs = reduce min (filter_map (leaving c reaches) xs)

-- the reaches of the gates, at most 60,000
abbrev pub gate_reaches : RowsOfCircuit → List ValueWord
gate_reaches c = reaches_table c.head c.gates 60000

-- an output that reads more than it may is refused
abbrev pub reach_told : Option ℕ → Result (Unit {0}) Refusal
reach_told None = Ok tt
reach_told (Some k) = Err (refused 14 k 4)

-- Opening: refused for tables that no accepted reading leaves, for counts that differ, and for the lowest output that reads an
-- input outside its existential's dependencies.
abbrev pub truth_opening : RowsOfFormula → RowsOfCircuit → Result (Unit {0}) Refusal
truth_opening t c =
    cond (lawful_formula t && lawful_circuit c)
    (cond (c.head.inputs == t.head.universals && c.head.outputs == t.head.existentials)
    (reach_told (lowest_leaving c (gate_reaches c) t.variables))
    (Err (refused 13 0 4)))
    (Err (refused 12 0 4))
