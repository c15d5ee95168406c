-- What replaying a proof answers: a case is opened, the records are taken in order, and the case is closed.
use Rattle.std.specs.Prelude.{ℕ, zero, suc, ◌+◌, cond, List, [], length, drop, Some, None, Ok, Err, Option, Result, ◌==◌}
use Rattle.base.specs.Causes.{Refusal}
use Rattle.records.specs.declared.slip.Slip.{Slip}
use Rattle.engine.specs.Plain.{Rules, State, start, on_ok, opened, take_result, take_used, close_slip, settled_count}
use Rattle.engine.specs.Shelves.{entries_in}

-- how many records were taken, of how many bytes, the refusal of the next one if there was one, and the state then
pub record TakenRecords : Type 0 where
  pub state : State
  pub records : ℕ
  pub bytes : ℕ
  pub refusal : Option Refusal

abbrev pub taken : State → ℕ → ℕ → Option Refusal → TakenRecords
taken s n used e = record { state = s; records = n; bytes = used; refusal = e }

abbrev pub on_result : {X Y : Type 0} → Result X Refusal → (X → Y) → (Refusal → Y) → Y
on_result (Ok x) f g = f x
on_result (Err e) f g = g e

-- Records taken from the front of the bytes until they end or one is refused; each uses some bytes, so as many turns as
-- there are bytes suffice.
abbrev pub take_turns : ℕ → Rules → State → ℕ → ℕ → List ℕ → TakenRecords
take_turns zero r s n used bs = taken s n used None
take_turns (suc turns) r s n used bs =
    cond (length bs == 0) (taken s n used None)
    (on_result (take_result r s bs)
    (λ x. take_turns turns r x.1 (n + 1) (used + take_used r s bs) (drop (take_used r s bs) bs))
    (λ e. taken s n used (Some e)))

abbrev pub take_all : Rules → State → List ℕ → TakenRecords
take_all r s bs = take_turns (length bs) r s 0 0 bs

-- What is reported of a replay: what was taken, what the shelf then holds, how many of the goals are settled, and the slip.
pub record Told : Type 0 where
  pub records : ℕ
  pub bytes : ℕ
  pub refusal : Option Refusal
  pub clauses : ℕ
  pub entries : ℕ
  pub settled : ℕ
  pub goals : ℕ
  pub slip : Slip

abbrev pub told_of : Rules → ℕ → TakenRecords → Told
told_of r case t =
    record {
      records = t.records;
      bytes = t.bytes;
      refusal = t.refusal;
      clauses = length t.state.list;
      entries = entries_in t.state.list;
      settled = settled_count t.state r.goals;
      goals = r.goals;
      slip = close_slip r t.state case;
    }

-- the report of a replay from a state on, or the refusal of the opening
abbrev pub replayed_from : Rules → State → ℕ → List ℕ → Result Told Refusal
replayed_from r s case proof = on_ok (opened r s case) (λ t. Ok (told_of r case (take_all r t proof)))

-- from the making on
abbrev pub replayed : Rules → ℕ → List ℕ → Result Told Refusal
replayed r case proof = replayed_from r (start []) case proof
