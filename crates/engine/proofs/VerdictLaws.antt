-- Slips hold: of an examiner that calls from the making led to, of a run, and of a whole examination.
use Rattle.std.proofs.Common.{◌≡◌, ℕ, min, List, [], ◌∷◌, ◌++◌, map, length, take, Result, sym, refl, ap, ◌∙◌, subst}
use Rattle.std.specs.List.{AllByRecursion}
use Rattle.base.specs.declared.faults.Fault.{Fault}
use Rattle.clauses.specs.declared.entry.Entry.{Entry}
use Rattle.records.specs.declared.slip.Slip.{Slip}
use Rattle.records.specs.declared.step.Step.{Step}
use Rattle.engine.specs.declared.examiner.Examiner.{Examiner}
use Rattle.engine.specs.declared.run.Answer.{Answer}
use Rattle.engine.specs.declared.run.Call.{Call}
use Rattle.engine.specs.declared.shelf.Shelf.{Ghosts as ShelfGhosts}
use Rattle.engine.specs.declared.side.Side.{Ghosts as SideGhosts}
use Rattle.engine.specs.declared.ticket.Ticket.{Ticket}
use Rattle.engine.specs.Plain.{Rules, State, start, step_result, close_slip}
use Rattle.engine.specs.Means.{rules, rules_of, state_of, Kept, Steps, Opens, Closes, Takes}
use Rattle.engine.specs.Runs as runs
use Rattle.engine.specs.Called.{called, told_answer, RunsTo}
use Rattle.engine.specs.Verdicts.{SlipHolds, AnswerHolds, Reached, SoundSlip, SoundRun, Examined}
use Rattle.engine.proofs.HistoryLaws.{all_runs_lawful}
use Rattle.engine.proofs.RunLaws.{run_more}
use Rattle.engine.proofs.Soundness.{sound_closing, sound_answers}

pub run_append : (r : Rules) (s : State) (cs ds : List runs.Call) → runs.run r s (cs ++ ds) ≡ runs.run r (runs.run r s cs) ds
run_append r s [] ds = refl
run_append r s (c ∷ cs) ds = run_append r (runs.next r s c) cs ds

module _ {S : Type 0} (side : SideGhosts S) (s : S) where
  abbrev ToldHolds : runs.Answer → Type 0
  ToldHolds a = (x : Slip) → a ≡ runs.ends x → SlipHolds side s x

  all_told : (row : List Answer) → AllByRecursion ToldHolds (map told_answer row) → AllByRecursion (AnswerHolds side s) row
  all_told [] h = tt
  all_told (a ∷ row) h = (λ x e. h.0 x (ap told_answer e), all_told row h.1)

module _ {S F : Type 0} (side : SideGhosts S) (shelf : ShelfGhosts F) where
  -- the slip of closing
  pub slip_sound : (e : Examiner S F side shelf) (number : ℕ) (x : Slip) → x ≡ close_slip (rules_of side shelf e) (state_of side shelf e) number → SoundSlip side shelf e x
  slip_sound e number x same list calls reached case clauses q =
      sound_closing side e.side (shelf.K e.shelf) (shelf.W e.shelf) list calls number case clauses
      (ap (λ (t : State). close_slip (rules_of side shelf e) t number) (sym reached) ∙ sym same ∙ q)

  -- an opening leads on
  pub reached_open : (list : List (List Entry)) (calls : List runs.Call) (was is : Examiner S F side shelf) → Reached side shelf list calls was → (n : ℕ) (x : Result Ticket Fault) → Opens side shelf n x was is → Reached side shelf list (calls ++ runs.opens n ∷ []) is
  reached_open list calls was is at n x o =
      let r : Rules = rules_of side shelf was in
      o.state ∙ ap (λ (t : State). runs.next r t (runs.opens n)) at ∙ sym (run_append r (start list) calls (runs.opens n ∷ []))
      ∙ ap (λ (q : Rules). runs.run q (start list) (calls ++ runs.opens n ∷ [])) (sym o.kept.rules_same)

  -- and so do the other calls
  module _ (list : List (List Entry)) (calls : List runs.Call) (was is : Examiner S F side shelf) (at : Reached side shelf list calls was) where
    reached_by : (c : runs.Call) → state_of side shelf is ≡ runs.next (rules_of side shelf was) (state_of side shelf was) c → Kept side shelf was is → Reached side shelf list (calls ++ c ∷ []) is
    reached_by c e kept =
        let r : Rules = rules_of side shelf was in
        e ∙ ap (λ (t : State). runs.next r t c) at ∙ sym (run_more r (start list) calls c)
        ∙ ap (λ (q : Rules). runs.run q (start list) (calls ++ c ∷ [])) (sym kept.rules_same)

    pub reached_step : (p : Step) (x : Result ℕ Fault) → Steps side shelf (λ r s. step_result r s p) x was is → Reached side shelf list (calls ++ runs.steps p ∷ []) is
    reached_step p x o = reached_by (runs.steps p) o.state o.kept

    pub reached_take : (bytes : List ℕ) (x : Result ℕ Fault) (used : ℕ) → Takes side shelf bytes x used was is → Reached side shelf list (calls ++ runs.takes bytes ∷ []) is
    reached_take bytes x used o = reached_by (runs.takes bytes) o.steps.state o.steps.kept

    pub reached_close : (n : ℕ) (x : Slip) → Closes side shelf n x was is → Reached side shelf list (calls ++ runs.closes n ∷ []) is
    reached_close n x o = reached_by (runs.closes n) o.state o.kept

  module _ (n : ℕ) (calls : List Call) (row row_then : List Answer) (was is : Examiner S F side shelf) (h : RunsTo side shelf n calls row row_then was is) where
    -- the calls that were made, behind those before
    run_reached : (list : List (List Entry)) (before : List runs.Call) → Reached side shelf list before was → Reached side shelf list (before ++ take n (map called calls)) is
    run_reached list before e =
        let r : Rules = rules_of side shelf was in
        let more : List runs.Call = take n (map called calls) in
        h.state ∙ ap (λ (t : State). runs.run r t more) e ∙ sym (run_append r (start list) before more)
        ∙ ap (λ (q : Rules). runs.run q (start list) (before ++ more)) (sym h.kept.rules_same)

    run_answers : (list : List (List Entry)) (before : List runs.Call) → Reached side shelf list before was → AllByRecursion (AnswerHolds side was.side) (take n row_then)
    run_answers list before e =
        let r : Rules = rules_of side shelf was in
        let more : List runs.Call = take n (map called calls) in
        let told : map told_answer (take n row_then) ≡ runs.answers r (runs.run r (start list) before) more = h.answers ∙ ap (λ (t : State). runs.answers r t more) e in
        all_told side was.side (take n row_then)
        (subst (AllByRecursion (ToldHolds side was.side)) (sym told) (sound_answers side was.side (shelf.K was.shelf) (shelf.W was.shelf) list before more))

    pub run_sound : (list : List (List Entry)) (before : List runs.Call) → Reached side shelf list before was → SoundRun side shelf n calls row_then was is list before
    run_sound list before e =
        let all : List runs.Call = before ++ take n (map called calls) in
        let at = run_reached list before e in
        record {
          reached = at;
          answers = run_answers list before e;
          closing = λ number. slip_sound is number (close_slip (rules_of side shelf is) (state_of side shelf is) number) refl list all at;
          lawful = all_runs_lawful (rules_of side shelf is) (side.few is.side) list all;
        }

    -- a run from the making on
    pub run_examined : (s : S) (f : F) → rules_of side shelf was ≡ rules side shelf s f → state_of side shelf was ≡ start (shelf.list f) → was.side ≡ s → n ≡ min (length calls) (length row) → Examined side shelf s f n calls row row_then
    run_examined s f ru st sd many =
        let more : List runs.Call = take n (map called calls) in
        record {
          count = many;
          answers = h.answers ∙ ap (λ (q : Rules). runs.answers q (state_of side shelf was) more) ru ∙ ap (λ (t : State). runs.answers (rules side shelf s f) t more) st;
          rest = h.rest;
          sound = subst (λ (x : S). AllByRecursion (AnswerHolds side x) (take n row_then)) sd (run_answers (shelf.list f) [] st);
        }
