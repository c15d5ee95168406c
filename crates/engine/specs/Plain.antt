-- The plain case: what an examiner answers and then holds, by the side's rules and the shelf's list of clauses.
use Rattle.std.specs.Prelude.{ℕ, zero, suc, ◌+◌, ◌-◌, Bool, true, false, cond, ◌&&◌, List, [], ◌∷◌, ◌++◌, length, replicate, Some, None, Ok, Err, Option, Result, ◌==◌, nat_le, slice_index_or, slice_set, take, count_by}
use Rattle.base.specs.Causes.{Refusal, refused}
use Rattle.clauses.specs.declared.entry.Entry.{Entry}
use Rattle.clauses.specs.Worlds.{same_entry, complement_entry}
use Rattle.clauses.specs.Clauses.{contained, once, filed, pivot_at, resolved_by}
use Rattle.records.specs.declared.step.Premise.{Premise}
use Rattle.records.specs.declared.step.Step.{Step}
use Rattle.records.specs.declared.step.Step.TheVariants as step
use Rattle.records.specs.declared.slip.Slip.{Slip}
use Rattle.records.specs.declared.slip.Slip.TheVariants as slip
use Rattle.records.specs.Records.{step_from, rest_from}
use Rattle.engine.specs.declared.side.Verdict.{Verdict}
use Rattle.engine.specs.declared.side.Verdict.TheVariants as verdict
use Rattle.engine.specs.Shelves.{clause_at, has_room}

-- What a run does not change: the side, and the shelf's two numbers.
pub record Rules : Type 0 where
  pub opening : Result (Unit {0}) Refusal
  pub admits : Premise → Bool
  pub claim : Premise → Result (List Entry) ℕ
  pub goals : ℕ
  pub goal : ℕ → List Entry
  pub says : Verdict
  pub most : ℕ
  pub width : ℕ

-- What it holds: the open case's number or none, the list of clauses, and which goals are settled (goal g at index g - 1).
pub record State : Type 0 where
  pub case : Option ℕ
  pub list : List (List Entry)
  pub settled : List Bool

-- at the making: no number, the shelf's list, no goals
abbrev pub start : List (List Entry) → State
start list = record { case = None; list = list; settled = replicate 16384 false }

abbrev pub on_ok : {X Y : Type 0} → Result X Refusal → (X → Result Y Refusal) → Result Y Refusal
on_ok (Ok x) f = f x
on_ok (Err e) f = Err e

abbrev pub on_some : {X : Type 0} → Option ℕ → X → (ℕ → X) → X
on_some None x f = x
on_some (Some n) x f = f n

abbrev pub is_open : State → Bool
is_open s = on_some s.case false (λ _. true)

-- a refusal at the number of clauses on the shelf
abbrev pub here : State → ℕ → Refusal
here s cause = refused cause (length s.list) 4

-- a clause of steps or a cause, as it is refused
abbrev pub judged : {X : Type 0} → State → Result X ℕ → Result X Refusal
judged s (Ok x) = Ok x
judged s (Err cause) = Err (here s cause)

-- open: refused where a case is open or the tables are; else the number is kept, and list and set are emptied
abbrev pub opened : Rules → State → ℕ → Result State Refusal
opened r s n =
    on_some s.case (on_ok r.opening (λ _. Ok (record { case = Some n; list = []; settled = replicate 16384 false })))
    (λ _. Err (refused 11 0 4))

-- a clause is filed: its number, and the list with it
abbrev pub file : Rules → State → List Entry → Result (ℕ × State) Refusal
file r s c =
    cond (has_room r.most r.width s.list c)
    (Ok (length s.list + 1, record { case = s.case; list = s.list ++ c ∷ []; settled = s.settled }))
    (Err (refused 21 (length s.list) 5))

-- a clause with this number is on the shelf; none that a step filed has more than 1,024 literals
abbrev pub numbered : State → ℕ → Bool
numbered s n = nat_le 1 n && nat_le n (length s.list) && nat_le (length (clause_at s.list n)) 1024

abbrev pub open_case : {X : Type 0} → State → Result X Refusal → Result X Refusal
open_case s x = on_some s.case (Err (here s 15)) (λ _. x)

-- premise: of this side's kind; a literal that occurs twice is kept once
abbrev pub premise_step : Rules → State → Premise → Result (ℕ × State) Refusal
premise_step r s p =
    cond (r.admits p)
    (open_case s (on_ok (judged s (r.claim p)) (λ c. on_ok (judged s (filed (once same_entry complement_entry c))) (λ d. file r s d))))
    (Err (refused 25 0 6))

-- resolve: two clauses, at a position of the first
abbrev pub resolve_step : Rules → State → ℕ → ℕ → ℕ → Result (ℕ × State) Refusal
resolve_step r s first second position =
    open_case s
    (cond (numbered s first && numbered s second)
    (on_ok (judged s (resolved_by same_entry complement_entry (pivot_at complement_entry (clause_at s.list first) position) (clause_at s.list first) (clause_at s.list second) position)) (λ c. file r s c))
    (Err (here s 16)))

abbrev pub is_settled : State → ℕ → Bool
is_settled s g = slice_index_or s.settled (g - 1) false

-- a goal and a clause with these numbers are there
abbrev pub are_there : Rules → State → ℕ → ℕ → Bool
are_there r s g c = nat_le 1 g && nat_le g r.goals && numbered s c

-- settle: a goal that has every literal of the clause
abbrev pub settle_step : Rules → State → ℕ → ℕ → Result (ℕ × State) Refusal
settle_step r s g c =
    open_case s
    (cond (are_there r s g c)
    (cond (contained same_entry (clause_at s.list c) (r.goal g))
    (cond (is_settled s g) (Err (here s 23)) (Ok (0, record { case = s.case; list = s.list; settled = slice_set s.settled (g - 1) true })))
    (Err (here s 22)))
    (Err (here s 16)))

abbrev pub step_result : Rules → State → Step → Result (ℕ × State) Refusal
step_result r s (step.Premise p) = premise_step r s p
step_result r s (step.Resolve first second position) = resolve_step r s first second position
step_result r s (step.Settle g c) = settle_step r s g c

-- take: one record from the front of the bytes, and its step
abbrev pub take_result : Rules → State → List ℕ → Result (ℕ × State) Refusal
take_result r s bytes = on_ok (step_from bytes) (λ p. step_result r s p)

-- the bytes that a take uses, none if refused
abbrev pub take_used : Rules → State → List ℕ → ℕ
take_used r s bytes = used_by (take_result r s bytes)
  where
    used_by : Result (ℕ × State) Refusal → ℕ
    used_by (Ok x) = length bytes - length (rest_from bytes)
    used_by (Err e) = 0

-- the lowest goal from number g on that is not settled, among n
abbrev pub lowest_open : State → ℕ → ℕ → Option ℕ
lowest_open s g zero = None
lowest_open s g (suc n) = cond (is_settled s g) (lowest_open s (g + 1) n) (Some g)

-- how many of the first n goals are settled
abbrev pub settled_count : State → ℕ → ℕ
settled_count s n = count_by (λ settled. settled) (take n s.settled)

abbrev pub verdict_slip : Verdict → ℕ → ℕ → Slip
verdict_slip verdict.True case clauses = slip.True case clauses
verdict_slip verdict.False case clauses = slip.False case clauses

-- how the open case ends
abbrev pub ending : Rules → State → ℕ → Slip
ending r s n = on_some (lowest_open s 1 r.goals) (verdict_slip r.says n (length s.list)) (λ g. slip.Unproved n (length s.list) g)

-- whether a ticket with this number is the open case's
abbrev pub is_case : State → ℕ → Bool
is_case s n = on_some s.case false (λ k. k == n)

-- close: the open case's ticket drops the number; any other is stray
abbrev pub close_slip : Rules → State → ℕ → Slip
close_slip r s n = cond (is_case s n) (ending r s n) (slip.Stray n)

abbrev pub closed : State → ℕ → State
closed s n = cond (is_case s n) (record { case = None; list = s.list; settled = s.settled }) s
