-- What an examiner holds, as a plain case, and what a call of it does.
use Rattle.std.specs.Prelude.{◌≡◌, ℕ, List, Ok, Err, vec_items, Result}
use Rattle.base.specs.declared.faults.Fault.{Fault}
use Rattle.base.specs.Causes.{Refusal, answered}
use Rattle.records.specs.declared.slip.Slip.{Slip}
use Rattle.engine.specs.declared.examiner.Examiner.{Examiner}
use Rattle.engine.specs.declared.side.Side.{Ghosts as SideGhosts}
use Rattle.engine.specs.declared.shelf.Shelf.{Ghosts as ShelfGhosts}
use Rattle.engine.specs.declared.ticket.Ticket.{Ticket}
use Rattle.engine.specs.Plain.{Rules, State, opened, take_result, take_used, close_slip, closed}

-- a side's rules with a shelf's two numbers
abbrev pub rules_with : {S : Type 0} → SideGhosts S → S → ℕ → ℕ → Rules
rules_with side s most width =
    record {
      opening = side.opening s;
      admits = side.admits s;
      claim = side.claim s;
      goals = side.goals s;
      goal = side.goal s;
      says = side.says s;
      most = most;
      width = width;
    }

module _ {S F : Type 0} (side : SideGhosts S) (shelf : ShelfGhosts F) where
  abbrev pub rules : S → F → Rules
  rules s f = rules_with side s (shelf.K f) (shelf.W f)

  abbrev pub rules_of : Examiner S F side shelf → Rules
  rules_of e = rules e.side e.shelf

  abbrev pub state_of : Examiner S F side shelf → State
  state_of e = record { case = e.case; list = shelf.list e.shelf; settled = vec_items e.settled }

  -- the side and the shelf's two numbers stay
  pub record Kept (was is : Examiner S F side shelf) : Type 0 where
    pub side_same : is.side ≡ was.side
    pub rules_same : rules_of is ≡ rules_of was

  abbrev pub number_of : Result (ℕ × State) Refusal → Result ℕ Refusal
  number_of (Ok x) = Ok x.0
  number_of (Err e) = Err e

  -- a refused call changes nothing
  abbrev pub after : State → Result (ℕ × State) Refusal → State
  after s (Ok x) = x.1
  after s (Err e) = s

  -- what a step answers and leaves is the plain case's, by its rules and state
  pub record Steps (step : Rules → State → Result (ℕ × State) Refusal) (r : Result ℕ Fault) (was is : Examiner S F side shelf) : Type 0 where
    pub answer : answered r ≡ number_of (step (rules_of was) (state_of was))
    pub state : state_of is ≡ after (state_of was) (step (rules_of was) (state_of was))
    pub kept : Kept was is

  abbrev pub ticket_number : Result Ticket Fault → Result ℕ Refusal
  ticket_number (Ok t) = answered {X = ℕ} (Ok t.number)
  ticket_number (Err e) = answered {X = ℕ} (Err e)

  abbrev pub opened_number : Result State Refusal → ℕ → Result ℕ Refusal
  opened_number (Ok s) n = Ok n
  opened_number (Err e) n = Err e

  abbrev pub opened_state : State → Result State Refusal → State
  opened_state was (Ok s) = s
  opened_state was (Err e) = was

  -- what opening answers and leaves is the plain case's
  pub record Opens (n : ℕ) (r : Result Ticket Fault) (was is : Examiner S F side shelf) : Type 0 where
    pub answer : ticket_number r ≡ opened_number (opened (rules_of was) (state_of was) n) n
    pub state : state_of is ≡ opened_state (state_of was) (opened (rules_of was) (state_of was) n)
    pub kept : Kept was is

  -- what closing answers and leaves is the plain case's
  pub record Closes (n : ℕ) (r : Slip) (was is : Examiner S F side shelf) : Type 0 where
    pub answer : r ≡ close_slip (rules_of was) (state_of was) n
    pub state : state_of is ≡ closed (state_of was) n
    pub kept : Kept was is

  -- what taking a record answers and leaves is the plain case's
  pub record Takes (bytes : List ℕ) (r : Result ℕ Fault) (used : ℕ) (was is : Examiner S F side shelf) : Type 0 where
    pub steps : Steps (λ q s. take_result q s bytes) r was is
    pub used_bytes : used ≡ take_used (rules_of was) (state_of was) bytes
