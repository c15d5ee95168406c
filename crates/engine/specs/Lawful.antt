-- Lawful runs: what an accepted step or settling leaves, and when a slip is given, for every list of calls.
use Rattle.std.specs.Prelude.{◌≡◌, ℕ, ◌+◌, ◌-◌, ◌<◌, ◌≤◌, true, false, List, [], ◌∷◌, ◌++◌, length, Some, Ok, slice_set}
use Rattle.clauses.specs.declared.entry.Entry.{Entry}
use Rattle.records.specs.declared.slip.Slip.TheVariants as slip
use Rattle.records.specs.declared.step.Step.{Step}
use Rattle.records.specs.declared.step.Step.TheVariants as step
use Rattle.engine.specs.Plain.{Rules, State, start, step_result, close_slip, verdict_slip, is_settled}
use Rattle.engine.specs.Runs.{Call, run}
use Rattle.engine.specs.Histories.{Allows, TooMuch, Accepted, Refused, Settles, history, Derives, SettledBy}

module _ (r : Rules) (s : State) where
  -- Of steps in an open case: an allowed one is refused exactly when there is too much, and else appends its clause and
  -- changes nothing else; an accepted one is allowed.
  pub record LawfulSteps : Type 0 where
    pub refused : (p : Step) (c : List Entry) → Allows r s.list p c → Refused (step_result r s p) → TooMuch r s.list c
    pub kept_out : (p : Step) (c : List Entry) → Allows r s.list p c → TooMuch r s.list c → Refused (step_result r s p)
    pub appends : (p : Step) (c : List Entry) (n : ℕ) (t : State) → Allows r s.list p c → step_result r s p ≡ Ok (n, t) → (n ≡ length s.list + 1) × (t ≡ record { case = s.case; list = s.list ++ c ∷ []; settled = s.settled })
    pub allowed : (p : Step) (n : ℕ) (t : State) → 1 ≤ n → step_result r s p ≡ Ok (n, t) → (c : List Entry) × Allows r s.list p c

  -- Of settlings in an open case: an allowed one of an open goal is never refused; an accepted one is allowed, was of an
  -- open goal, marks it and changes nothing else.
  pub record LawfulSettlings : Type 0 where
    pub accepted : (g k : ℕ) → Settles r s g k → is_settled s g ≡ false → Accepted (step_result r s (step.Settle g k))
    pub allowed : (g k n : ℕ) (t : State) → step_result r s (step.Settle g k) ≡ Ok (n, t) → Settles r s g k × (is_settled s g ≡ false)
    pub marks : (g k n : ℕ) (t : State) → step_result r s (step.Settle g k) ≡ Ok (n, t) → (n ≡ 0) × (t ≡ record { case = s.case; list = s.list; settled = slice_set s.settled (g - 1) true })

-- A state with case n open, and the steps accepted since its opening: what the shelf holds was derived by them; steps and
-- settlings are lawful; and closing by the case's ticket gives the side's verdict exactly when each goal was settled
-- by a derived clause, else unproved with the lowest open goal.
pub record Lawful (r : Rules) (s : State) (done : List Step) (n : ℕ) : Type 0 where
  pub derived : Derives r done s.list
  pub steps_are : LawfulSteps r s
  pub settlings_are : LawfulSettlings r s
  pub gives_verdict : ((g : ℕ) → 1 ≤ g → g ≤ r.goals → SettledBy r done s.list g) → close_slip r s n ≡ verdict_slip r.says n (length s.list)
  pub verdict_only : (k : ℕ) → close_slip r s n ≡ verdict_slip r.says n k → (g : ℕ) → 1 ≤ g → g ≤ r.goals → SettledBy r done s.list g
  pub unproved : (g k : ℕ) → close_slip r s n ≡ slip.Unproved n k g → (1 ≤ g) × (g ≤ r.goals) × (k ≡ length s.list) × (SettledBy r done s.list g → ⊥) × ((h : ℕ) → 1 ≤ h → h < g → SettledBy r done s.list h)

-- a list of calls from the making on, with this list on the shelf, where a case is open after them
abbrev pub RunLawful : Rules → List (List Entry) → List Call → Type 0
RunLawful r list calls = (n : ℕ) → (run r (start list) calls).case ≡ Some n → Lawful r (run r (start list) calls) (history r (start list) [] calls) n

abbrev pub AllRunsLawful : Rules → Type 0
AllRunsLawful r = (list : List (List Entry)) (calls : List Call) → RunLawful r list calls
