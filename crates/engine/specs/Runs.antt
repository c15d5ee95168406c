-- Runs: lists of calls, and what each call answers and leaves.
use Rattle.std.specs.Prelude.{ℕ, List, [], ◌∷◌, Ok, Err, Result}
use Rattle.base.specs.Causes.{Refusal}
use Rattle.records.specs.declared.slip.Slip.{Slip}
use Rattle.records.specs.declared.step.Step.{Step}
use Rattle.engine.specs.Plain.{Rules, State, opened, step_result, take_result, take_used, close_slip, closed}

-- a call, as a host makes it: direct steps, records as bytes, tickets by their numbers
pub data Call : Type 0 where
  opens : ℕ → Call
  steps : Step → Call
  takes : List ℕ → Call
  closes : ℕ → Call

-- its answer: the ticket's number, the clause's number or 0, for a record with the bytes used; a refusal; or a slip
pub data Answer : Type 0 where
  numbered : ℕ → Answer
  took : ℕ → ℕ → Answer
  refuses : Refusal → Answer
  ends : Slip → Answer

abbrev pub opened_state : State → Result State Refusal → State
opened_state was (Ok s) = s
opened_state was (Err e) = was

abbrev pub stepped_state : State → Result (ℕ × State) Refusal → State
stepped_state was (Ok x) = x.1
stepped_state was (Err e) = was

abbrev pub next : Rules → State → Call → State
next r s (opens n) = opened_state s (opened r s n)
next r s (steps p) = stepped_state s (step_result r s p)
next r s (takes bytes) = stepped_state s (take_result r s bytes)
next r s (closes n) = closed s n

abbrev pub opened_answer : ℕ → Result State Refusal → Answer
opened_answer n (Ok s) = numbered n
opened_answer n (Err e) = refuses e

abbrev pub stepped_answer : Result (ℕ × State) Refusal → Answer
stepped_answer (Ok x) = numbered x.0
stepped_answer (Err e) = refuses e

abbrev pub taken_answer : ℕ → Result (ℕ × State) Refusal → Answer
taken_answer used (Ok x) = took x.0 used
taken_answer used (Err e) = refuses e

abbrev pub answer : Rules → State → Call → Answer
answer r s (opens n) = opened_answer n (opened r s n)
answer r s (steps p) = stepped_answer (step_result r s p)
answer r s (takes bytes) = taken_answer (take_used r s bytes) (take_result r s bytes)
answer r s (closes n) = ends (close_slip r s n)

-- the state after a list of calls, and their answers
abbrev pub run : Rules → State → List Call → State
run r s [] = s
run r s (c ∷ cs) = run r (next r s c) cs

abbrev pub answers : Rules → State → List Call → List Answer
answers r s [] = []
answers r s (c ∷ cs) = answer r s c ∷ answers r (next r s c) cs
