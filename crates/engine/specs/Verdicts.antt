-- What the side's verdict means, on a slip and among answers, and what is known of runs from the making on.
use Rattle.std.specs.Prelude.{◌≡◌, ℕ, ◌≤◌, min, true, List, ◌++◌, map, length, take, drop, Ok}
use Rattle.std.specs.List.{AllByRecursion}
use Rattle.clauses.specs.Worlds.{true_in}
use Rattle.clauses.specs.declared.entry.Entry.{Entry}
use Rattle.records.specs.declared.slip.Slip.{Slip}
use Rattle.engine.specs.declared.examiner.Examiner.{Examiner}
use Rattle.engine.specs.declared.run.Answer.{Answer}
use Rattle.engine.specs.declared.run.Answer.TheVariants as answer
use Rattle.engine.specs.declared.run.Call.{Call}
use Rattle.engine.specs.declared.shelf.Shelf.{Ghosts as ShelfGhosts}
use Rattle.engine.specs.declared.side.Side.{Ghosts as SideGhosts}
use Rattle.engine.specs.Plain.{start, close_slip, verdict_slip}
use Rattle.engine.specs.Means.{rules_with, rules, rules_of, state_of}
use Rattle.engine.specs.Runs as runs
use Rattle.engine.specs.Called.{called, told_answer}
use Rattle.engine.specs.Lawful.{RunLawful}

module _ {S : Type 0} (side : SideGhosts S) where
  -- the tables are accepted, every goal is true in every world, and what the verdict says of the subject is so
  pub record Concluded (s : S) : Type 0 where
    pub accepted : side.opening s ≡ Ok tt
    pub goals : (g : ℕ) → 1 ≤ g → g ≤ side.goals s → (m : side.Model s) → true_in (side.world s m) (side.goal s g) ≡ true
    pub meaning : side.Meaning s

  -- where a slip has the side's verdict, it is concluded
  abbrev pub SlipHolds : S → Slip → Type 0
  SlipHolds s x = (case clauses : ℕ) → x ≡ verdict_slip (side.says s) case clauses → Concluded s

  -- whatever calls were made of an examiner of it, on whatever shelf, the slip of closing holds
  abbrev pub SlipsHold : S → Type 0
  SlipsHold s =
      (most width : ℕ) (list : List (List Entry)) (calls : List runs.Call) (n : ℕ) →
      let r = rules_with side s most width in
      SlipHolds s (close_slip r (runs.run r (start list) calls) n)

  abbrev pub AnswerHolds : S → Answer → Type 0
  AnswerHolds s a = (x : Slip) → a ≡ answer.Ended x → SlipHolds s x

module _ {S F : Type 0} (side : SideGhosts S) (shelf : ShelfGhosts F) where
  -- calls that lead from the making, with this list on the shelf, to what the examiner holds
  abbrev pub Reached : List (List Entry) → List runs.Call → Examiner S F side shelf → Type 0
  Reached list calls e = state_of side shelf e ≡ runs.run (rules_of side shelf e) (start list) calls

  -- whatever calls led to it, a slip of this examiner holds
  abbrev pub SoundSlip : Examiner S F side shelf → Slip → Type 0
  SoundSlip e x = (list : List (List Entry)) (calls : List runs.Call) → Reached list calls e → SlipHolds side e.side x

  -- Of n more calls, after those that led to an examiner: the slips among their answers hold, and so does the slip
  -- of closing then; and the whole run is lawful.
  pub record SoundRun (n : ℕ) (calls : List Call) (row : List Answer) (was is : Examiner S F side shelf) (list : List (List Entry)) (before : List runs.Call) : Type 0 where
    pub reached : Reached list (before ++ take n (map called calls)) is
    pub answers : AllByRecursion (AnswerHolds side was.side) (take n row)
    pub closing : (number : ℕ) → SlipHolds side is.side (close_slip (rules_of side shelf is) (state_of side shelf is) number)
    pub lawful : RunLawful (rules_of side shelf is) list (before ++ take n (map called calls))

  -- Of n calls of an examiner that was made of this side and shelf: their answers are the plain case's and stand at the
  -- front of the row, the rest of which stays; and the slips among them hold.
  pub record Examined (s : S) (f : F) (n : ℕ) (calls : List Call) (row row_then : List Answer) : Type 0 where
    pub count : n ≡ min (length calls) (length row)
    pub answers : map told_answer (take n row_then) ≡ runs.answers (rules side shelf s f) (start (shelf.list f)) (take n (map called calls))
    pub rest : drop n row_then ≡ drop n row
    pub sound : AllByRecursion (AnswerHolds side s) (take n row_then)
