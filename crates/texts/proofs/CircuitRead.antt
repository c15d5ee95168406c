-- What a reading of a circuit from the start of a text leaves in rows that are long enough for every lawful circuit.
use Rattle.std.proofs.Common.{◌≡◌, ℕ, List, length, Ok, Err, Result, sym, subst, arith}
use Rattle.base.specs.declared.faults.Fault.{Fault}
use Rattle.base.specs.Causes.{Refusal, told}
use Rattle.circuit.specs.declared.tables.CircuitHead.{CircuitHead}
use Rattle.circuit.specs.declared.tables.Gate.{Gate}
use Rattle.circuit.specs.Reading.{Circuit, Agrees, circuit_from}
use Rattle.spelling.specs.CircuitGrammar.{Aig}
use Rattle.spelling.specs.CircuitLaw.{AcceptsCircuit}
use Rattle.spelling.proofs.ProperWords.{no_ok}
use Rattle.models.specs.HeldTables.{RowsOfCircuit}
use Rattle.texts.specs.Spelled.{SpelledCircuit, ReadsCircuit}
use Rattle.texts.specs.TextRows.{circuit_rows_read, circuit_in}

-- the rows of a head and the tables that were filled
abbrev pub circuit_rows_in : CircuitHead → List ℕ → List Gate → RowsOfCircuit
circuit_rows_in h os gs = record { head = h; outputs = os; gates = gs }

-- the rows that a reading leaves, by its answer
module _ (os : List ℕ) (gs : List Gate) (p q : ℕ) where
  accepted : (c : Result Circuit Refusal) (h : CircuitHead) → Agrees c (Ok h) 4096 os 60000 gs p q → Ok (circuit_rows_in h os gs) ≡ circuit_rows_read c
  accepted (Ok c) h a = cc
  accepted (Err e) h a = absurd (no_ok h e (sym a.head))

  refused : (c : Result Circuit Refusal) (e : Fault) → Agrees c (Err e) 4096 os 60000 gs p q → Err (told e) ≡ circuit_rows_read c
  refused (Ok c) e a = absurd (no_ok c.head (told e) a.head)
  refused (Err d) e a = cc

-- what a reading says of rows of these lengths
module _ (text : List ℕ) (outputs gates : ℕ) (os : List ℕ) (gs : List Gate) (q : ℕ) (o : outputs ≡ 4096) (g : gates ≡ 60000) where
  abbrev ReadAs : Result CircuitHead Fault → Type 0
  ReadAs r = Agrees (circuit_from text 0 outputs gates) r outputs os gates gs 0 q

  -- the same reading, with the lengths as numbers
  at_lengths : (r : Result CircuitHead Fault) → ReadAs r → Agrees (circuit_from text 0 4096 60000) r 4096 os 60000 gs 0 q
  at_lengths r a =
      subst (λ n. Agrees (circuit_from text 0 4096 n) r 4096 os n gs 0 q) g
      (subst (λ n. Agrees (circuit_from text 0 n gates) r n os gates gs 0 q) o a)

  -- the rows are those that the text's words give
  pub accepted_rows : (h : CircuitHead) → ReadAs (Ok h) → Ok (circuit_rows_in h os gs) ≡ circuit_in text
  accepted_rows h a = accepted os gs 0 q _ h (at_lengths (Ok h) a)

  -- the refusal is the one that the text's words give
  pub refused_rows : (e : Fault) → ReadAs (Err e) → Err (told e) ≡ circuit_in text
  refused_rows e a = refused os gs 0 q _ e (at_lengths (Err e) a)

module _ (text : List ℕ) (os : List ℕ) (gs : List Gate) (q : ℕ) where
  -- an accepted reading leaves a circuit that the text spells
  pub accepted_reads : (h : CircuitHead) → AcceptsCircuit text 0 (Ok h) os gs q → ReadsCircuit text (Ok (circuit_rows_in h os gs))
  accepted_reads h (c, rest, bytes, spelt, lawful, outputs, gates, holds, behind) = (
    c,
    record { bytes = bytes; lawful = lawful; rest = rest; spells = spelt },
    record { lawful = lawful; output_room = outputs; gate_room = gates; holds = holds },
  )

  -- every lawful circuit fits, so a refused text spells none
  pub refused_reads : (e : Fault) → length os ≡ 4096 → length gs ≡ 60000 → AcceptsCircuit text 0 (Err e) os gs q → (c : Aig) → SpelledCircuit text c → ⊥
  refused_reads e o g none c s =
      let lawful = s.lawful in
      none c s.rest s.bytes s.spells lawful (omega (arith, lawful.few_outputs)) (omega (arith, lawful.few_wires))
