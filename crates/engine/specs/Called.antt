-- The calls and answers of the code, as those of runs, and what a list of calls answers and leaves.
use Rattle.std.specs.Prelude.{◌≡◌, ℕ, List, map, take, drop}
use Rattle.base.specs.Causes.{told}
use Rattle.engine.specs.declared.examiner.Examiner.{Examiner}
use Rattle.engine.specs.declared.run.Answer.{Answer}
use Rattle.engine.specs.declared.run.Answer.TheVariants as answer
use Rattle.engine.specs.declared.run.Call.{Call}
use Rattle.engine.specs.declared.run.Call.TheVariants as call
use Rattle.engine.specs.declared.shelf.Shelf.{Ghosts as ShelfGhosts}
use Rattle.engine.specs.declared.side.Side.{Ghosts as SideGhosts}
use Rattle.engine.specs.Means.{rules_of, state_of, Kept}
use Rattle.engine.specs.Runs as runs

abbrev pub called : Call → runs.Call
called (call.Open n) = runs.opens n
called (call.Step p) = runs.steps p
called (call.Take bytes) = runs.takes bytes.now
called (call.Close n) = runs.closes n

abbrev pub told_answer : Answer → runs.Answer
told_answer (answer.Number n) = runs.numbered n
told_answer (answer.Took n used) = runs.took n used
told_answer (answer.Refused f) = runs.refuses (told f)
told_answer (answer.Ended s) = runs.ends s

module _ {S F : Type 0} (side : SideGhosts S) (shelf : ShelfGhosts F) where
  -- what one call answers and leaves is the plain case's
  pub record Calls (c : Call) (r : Answer) (was is : Examiner S F side shelf) : Type 0 where
    pub answer : told_answer r ≡ runs.answer (rules_of side shelf was) (state_of side shelf was) (called c)
    pub state : state_of side shelf is ≡ runs.next (rules_of side shelf was) (state_of side shelf was) (called c)
    pub kept : Kept side shelf was is

  -- the first n calls: their answers stand at the front of the row, the rest of it stays, and the state is the run's
  pub record RunsTo (n : ℕ) (calls : List Call) (row row_then : List Answer) (was is : Examiner S F side shelf) : Type 0 where
    pub answers : map told_answer (take n row_then) ≡ runs.answers (rules_of side shelf was) (state_of side shelf was) (take n (map called calls))
    pub rest : drop n row_then ≡ drop n row
    pub state : state_of side shelf is ≡ runs.run (rules_of side shelf was) (state_of side shelf was) (take n (map called calls))
    pub kept : Kept side shelf was is
