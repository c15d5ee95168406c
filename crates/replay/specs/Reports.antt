-- The reports of the code, as the definitions have them, and what a slip in them means.
use Rattle.std.specs.Prelude.{◌≡◌, ℕ, List, IfOk, Result, option_map}
use Rattle.std.specs.Result.{result_map_both}
use Rattle.base.specs.declared.faults.Fault.{Fault}
use Rattle.base.specs.Causes.{Refusal, told}
use Rattle.clauses.specs.declared.entry.Entry.{Entry}
use Rattle.engine.specs.declared.examiner.Examiner.{Examiner}
use Rattle.engine.specs.declared.shelf.Shelf.{Ghosts as ShelfGhosts}
use Rattle.engine.specs.declared.side.Side.{Ghosts as SideGhosts}
use Rattle.engine.specs.Means.{rules_of, state_of, Kept}
use Rattle.engine.specs.Runs.{Call}
use Rattle.engine.specs.Verdicts.{SlipHolds, Reached}
use Rattle.replay.specs.declared.report.Report.{Report}
use Rattle.replay.specs.declared.report.Taken.{Taken}
use Rattle.replay.specs.Replay.{Told, taken, take_all, replayed_from}

abbrev pub told_report : Report → Told
told_report p =
    record {
      records = p.taken.records;
      bytes = p.taken.bytes;
      refusal = option_map told p.taken.refusal;
      clauses = p.clauses;
      entries = p.entries;
      settled = p.settled;
      goals = p.goals;
      slip = p.slip;
    }

abbrev pub told_outcome : Result Report Fault → Result Told Refusal
told_outcome o = result_map_both told_report told o

-- where a report's slip has the side's verdict, every goal is true in every world
abbrev pub ReportHolds : {S : Type 0} → SideGhosts S → S → Result Report Fault → Type 0
ReportHolds side s o = IfOk o (λ p. SlipHolds side s p.slip)

module _ {S F : Type 0} (side : SideGhosts S) (shelf : ShelfGhosts F) where
  -- what was taken, with the state then, is the plain case's
  pub record TakesAll (proof : List ℕ) (t : Taken) (was is : Examiner S F side shelf) : Type 0 where
    pub all : taken (state_of side shelf is) t.records t.bytes (option_map told t.refusal) ≡ take_all (rules_of side shelf was) (state_of side shelf was) proof
    pub kept : Kept side shelf was is

  -- The outcome is the plain case's; and whatever calls led to the examiner, a slip in it holds.
  pub record Replays (case : ℕ) (proof : List ℕ) (o : Result Report Fault) (was : Examiner S F side shelf) : Type 0 where
    pub outcome : told_outcome o ≡ replayed_from (rules_of side shelf was) (state_of side shelf was) case proof
    pub holds : (list : List (List Entry)) (calls : List Call) → Reached side shelf list calls was → ReportHolds side was.side o
