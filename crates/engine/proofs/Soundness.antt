-- Soundness: what was derived is true in every world of the side, and so is each goal that it settles; so a slip with the
-- side's verdict says that every goal is.
use Rattle.std.proofs.Common.{◌≡◌, ℕ, ◌≤◌, Bool, true, false, eqb, List, [], ◌∷◌, ◌++◌, None, Ok, Err, Result, refl, ◌∙◌, subst, arith}
use Rattle.std.specs.List.{AllByRecursion}
use Rattle.std.proofs.ByRecursion.{All-push}
use Rattle.std.proofs.lemmas.Bool.{false≢true, cond_both}
use Rattle.base.specs.Causes.{Refusal}
use Rattle.clauses.specs.declared.entry.Entry.{Entry}
use Rattle.clauses.specs.Worlds.{true_in}
use Rattle.clauses.specs.Clauses.{Joined}
use Rattle.clauses.proofs.ResolutionLaws.{contained_true, once_true, resolvent_true}
use Rattle.records.specs.declared.slip.Slip.{Slip}
use Rattle.records.specs.declared.slip.Slip.TheVariants as slip
use Rattle.records.specs.declared.step.Step.{Step}
use Rattle.engine.specs.declared.side.Side.{Ghosts as SideGhosts}
use Rattle.engine.specs.declared.side.Verdict.{Verdict}
use Rattle.engine.specs.declared.side.Verdict.TheVariants as verdict
use Rattle.engine.specs.Shelves.{clause_at}
use Rattle.engine.specs.Plain.{Rules, State, start, opened, step_result, take_result, take_used, lowest_open, verdict_slip, is_case, close_slip}
use Rattle.engine.specs.Runs.{Call, opens, steps, takes, closes, ends, next, opened_answer, stepped_answer, taken_answer, answer, run, answers}
use Rattle.engine.specs.Means.{rules_with}
use Rattle.engine.specs.Histories.{Allows, premise, resolve, Derives, nothing, more, settling, SettledBy, noted, history}
use Rattle.engine.specs.Verdicts.{Concluded, SlipHolds}
use Rattle.engine.proofs.RowLaws.{filed_all}
use Rattle.engine.proofs.Ways.{none_some, case_both, lowest_all, unproved_never}
use Rattle.engine.proofs.ClauseRelations.{first_once, all_contained, from_resolvent}
use Rattle.engine.proofs.StepRelations.{Fit}
use Rattle.engine.proofs.HistoryLaws.{Holds, Stands, next_stands, run_stands}

stray_never : (v : Verdict) (n m c : ℕ) → slip.Stray n ≡ verdict_slip v m c → ⊥
stray_never verdict.True n m c e = cc
stray_never verdict.False n m c e = cc

-- which answers are no slips
opened_never : (n : ℕ) (o : Result State Refusal) (x : Slip) → opened_answer n o ≡ ends x → ⊥
opened_never n (Ok st) x e = cc
opened_never n (Err f) x e = cc

stepped_never : (o : Result (ℕ × State) Refusal) (x : Slip) → stepped_answer o ≡ ends x → ⊥
stepped_never (Ok y) x e = cc
stepped_never (Err f) x e = cc

taken_never : (used : ℕ) (o : Result (ℕ × State) Refusal) (x : Slip) → taken_answer used o ≡ ends x → ⊥
taken_never used (Ok y) x e = cc
taken_never used (Err f) x e = cc

same_ends : (x y : Slip) → ends x ≡ ends y → x ≡ y
same_ends x y e = cc

all_front : (P : List Entry → Type 0) (xs ys : List (List Entry)) → AllByRecursion P (xs ++ ys) → AllByRecursion P xs
all_front P [] ys h = tt
all_front P (x ∷ xs) ys h = (h.0, all_front P xs ys h.1)

module _ {S : Type 0} (side : SideGhosts S) (s : S) (most width : ℕ) where
  abbrev r : Rules
  r = rules_with side s most width

  -- a clause is true in every world
  abbrev True : List Entry → Type 0
  True c = (m : side.Model s) → true_in (side.world s m) c ≡ true

  module _ (accepted : side.opening s ≡ Ok tt) where
    -- what the rules allow is true where the clauses are
    allows_true : {p : Step} {c : List Entry} (cs : List (List Entry)) → AllByRecursion Fit cs → AllByRecursion True cs → Allows r cs p c → True c
    allows_true cs fits h (premise {c} p claimed a e f calm) m =
        subst (λ (j : Joined Entry). j.clash ≡ false → true_in (side.world s m) j.clause ≡ true) (first_once claimed c f calm)
        (once_true (side.world s m) claimed (side.truthful s accepted p claimed e m)) refl
    allows_true cs fits h (resolve {c} first second position a b v calm) m =
        let t = from_resolvent (clause_at cs first) (clause_at cs second) position c (filed_all Fit cs second fits b).once_each v calm in
        subst (λ (j : Joined Entry). j.clash ≡ false → true_in (side.world s m) j.clause ≡ true) t.is
        (resolvent_true (side.world s m) (clause_at cs first) (clause_at cs second) position t.pivot (filed_all True cs first h a m) (filed_all True cs second h b m) t.there_is) refl

    derived_true : {done : List Step} {cs : List (List Entry)} → Derives r done cs → AllByRecursion Fit cs → AllByRecursion True cs
    derived_true nothing fits = tt
    derived_true (more {ss} {cs} {c} p d a) fits =
        let front : AllByRecursion Fit cs = all_front Fit cs (c ∷ []) fits in
        let h = derived_true d front in
        All-push True cs c h (allows_true cs front h a)
    derived_true (settling g k d) fits = derived_true d fits

    settled_true : (done : List Step) (cs : List (List Entry)) (g : ℕ) → AllByRecursion True cs → SettledBy r done cs g → True (side.goal s g)
    settled_true done cs g h b m =
        contained_true (side.world s m) (clause_at cs b.0) (side.goal s g) (all_contained (clause_at cs b.0) (side.goal s g) b.3) (filed_all True cs b.0 h b.2 m)

  abbrev Holding : State → List Step → Type 0
  Holding st done = Stands r (side.few s) st done

  all_true : (st : State) (done : List Step) → Holds r (side.few s) st done → lowest_open st 1 (side.goals s) ≡ None → Concluded side s
  all_true st done h e =
      let clauses = derived_true h.accepted h.derived h.clauses in
      let goals : (g : ℕ) → 1 ≤ g → g ≤ side.goals s → True (side.goal s g) = (λ g low high. settled_true h.accepted done st.list g clauses (h.settled_by g low (lowest_all st (side.goals s) 1 e g low (omega arith)))) in
      record { accepted = h.accepted; goals = goals; meaning = side.conclusion s h.accepted goals }

  slip_well : (st : State) (done : List Step) (n : ℕ) → Holding st done → SlipHolds side s (close_slip r st n)
  slip_well st done n h m clauses =
      cond_both (is_case st n) _ _ (λ (x : Slip). x ≡ verdict_slip (side.says s) m clauses → Concluded side s)
      (λ own.
      case_both (λ (x : Slip). x ≡ verdict_slip (side.says s) m clauses → Concluded side s) (lowest_open st 1 (side.goals s)) _ _
      (λ none _.
      case_both (λ (b : Bool). b ≡ true → Concluded side s) st.case false (λ k. eqb k n) (λ _ f. absurd (false≢true f)) (λ k e _. all_true st done (h k e) none) own)
      (λ g _ q. absurd (unproved_never (side.says s) _ _ g m clauses q)))
      (λ _ q. absurd (stray_never (side.says s) n m clauses q))

  answer_well : (st : State) (done : List Step) (c : Call) → Holding st done → (x : Slip) → answer r st c ≡ ends x → SlipHolds side s x
  answer_well st done (opens n) h x e = absurd (opened_never n (opened r st n) x e)
  answer_well st done (steps p) h x e = absurd (stepped_never (step_result r st p) x e)
  answer_well st done (takes bytes) h x e = absurd (taken_never (take_used r st bytes) (take_result r st bytes) x e)
  answer_well st done (closes n) h x e = λ m clauses q. slip_well st done n h m clauses (same_ends (close_slip r st n) x e ∙ q)

  answers_well : (st : State) (done : List Step) (cs : List Call) → Holding st done → AllByRecursion (λ a. (x : Slip) → a ≡ ends x → SlipHolds side s x) (answers r st cs)
  answers_well st done [] h = tt
  answers_well st done (c ∷ cs) h = (answer_well st done c h, answers_well (next r st c) (noted r st done c) cs (next_stands r (side.few s) st done c h))

  start_well : (list : List (List Entry)) (cs : List Call) → Holding (run r (start list) cs) (history r (start list) [] cs)
  start_well list cs = run_stands r (side.few s) (start list) [] cs (λ k z. absurd (none_some k z))

  -- after every list of calls from the making on, the slip of closing holds
  pub sound_closing : (list : List (List Entry)) (cs : List Call) (n : ℕ) → SlipHolds side s (close_slip r (run r (start list) cs) n)
  sound_closing list cs n = slip_well (run r (start list) cs) (history r (start list) [] cs) n (start_well list cs)

  -- and so do the slips among the answers of more calls
  pub sound_answers : (list : List (List Entry)) (before cs : List Call) → AllByRecursion (λ a. (x : Slip) → a ≡ ends x → SlipHolds side s x) (answers r (run r (start list) before) cs)
  sound_answers list before cs = answers_well (run r (start list) before) (history r (start list) [] before) cs (start_well list before)
