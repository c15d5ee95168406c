-- Histories: over every run, what an open case holds was derived since its opening, its steps and settlings are lawful,
-- and its slip says exactly which goals were settled.
use Rattle.std.proofs.Common.{◌≡◌, ℕ, zero, suc, ◌+◌, ◌-◌, ◌<◌, ◌≤◌, Bool, true, false, cond, eqb, List, [], ◌∷◌, ◌++◌, length, get_or, set, Some, None, Ok, Err, Option, Result, sym, refl, ap, ◌∙◌, subst, ⊎_elim, arith}
use Rattle.std.specs.List.{AllByRecursion, Contains}
use Rattle.std.proofs.ByRecursion.{All-push}
use Rattle.std.proofs.lemmas.List.Elements.{Contains-append_left, Contains-push, Contains-push_cases}
use Rattle.std.proofs.lemmas.List.{get_or_append_left, get_or-set_same, get_or-set_other, length-replicate, length-set, length_push}
use Rattle.std.proofs.lemmas.Bool.{both_ways, false≢true, cond_both, cond-true, cond-false, cases_Bool, cases_eq, eq-eqb}
use Rattle.base.specs.Causes.{Refusal}
use Rattle.clauses.specs.declared.entry.Entry.{Entry}
use Rattle.records.specs.declared.slip.Slip.{Slip}
use Rattle.records.specs.declared.slip.Slip.TheVariants as slip
use Rattle.records.specs.declared.step.Step.{Step}
use Rattle.records.specs.declared.step.Step.TheVariants as step
use Rattle.records.specs.Records.{step_from}
use Rattle.engine.specs.Shelves.{clause_at}
use Rattle.engine.specs.Plain.{Rules, State, start, on_ok, on_some, opened, is_settled, step_result, take_result, lowest_open, verdict_slip, ending, is_case, close_slip}
use Rattle.engine.specs.Runs.{Call, opens, steps, takes, closes, opened_state, stepped_state, next, run}
use Rattle.engine.specs.Histories.{LiteralOf, Filed, Allows, premise, resolve, noted_if, noted_take, noted, history, Derives, nothing, more, settling, Settles, SettledBy}
use Rattle.engine.specs.Lawful.{AllRunsLawful}
use Rattle.engine.proofs.RowLaws.{err_ok, same_ok}
use Rattle.engine.proofs.Ways.{none_some, case_both, ok_both, none_settled, lowest_all, unproved_never}
use Rattle.engine.proofs.StepRelations.{Fit, outcome, premise_accepted, resolve_accepted, settle_marks, lawful_steps, lawful_settlings}

-- clauses that were filed stay
filed_push : (cs : List (List Entry)) (c : List Entry) (k : ℕ) → Filed cs k → Filed (cs ++ c ∷ []) k
filed_push cs c k f = let high : k ≤ length cs = f.1 in (f.0, omega (arith, length_push cs c))

clause_push : (cs : List (List Entry)) (c : List Entry) (k : ℕ) → Filed cs k → clause_at (cs ++ c ∷ []) k ≡ clause_at cs k
clause_push cs c k f =
    let low : 1 ≤ k = f.0 in
    let high : k ≤ length cs = f.1 in
    ap (λ (l : List Entry). cond (eqb k 0) [] l) (get_or_append_left cs (c ∷ []) [] (k - 1) (omega arith))

-- the lowest open goal
all_lowest : (s : State) (n g : ℕ) → ((k : ℕ) → g ≤ k → k < g + n → is_settled s k ≡ true) → lowest_open s g n ≡ None
all_lowest s zero g h = refl
all_lowest s (suc n) g h = cond-true _ _ _ (h g (omega arith) (omega arith)) ∙ all_lowest s n (g + 1) (λ k l m. h k (omega arith) (omega arith))

record Lowest (s : State) (n a g : ℕ) : Type 0 where
  low : a ≤ g
  high : g < a + n
  is_open : is_settled s g ≡ false
  below : (h : ℕ) → a ≤ h → h < g → is_settled s h ≡ true

lowest_first : (s : State) (n a g : ℕ) → lowest_open s a n ≡ Some g → Lowest s n a g
lowest_first s zero a g e = absurd (none_some g e)
lowest_first s (suc n) a g e =
    ⊎_elim
    (λ t.
    let later = lowest_first s n (a + 1) g (sym (cond-true _ _ _ t) ∙ e) in
    let from : a + 1 ≤ g = later.low in
    let to : g < a + 1 + n = later.high in
    record {
      low = omega arith;
      high = omega arith;
      is_open = later.is_open;
      below =
          λ h l m.
          ⊎_elim (λ same. subst (λ (i : ℕ). is_settled s i ≡ true) (sym same) t) (λ other. later.below h (let o : h ≡ a → ⊥ = other in omega arith) m) (cases_eq h a);
    })
    (λ f.
    let found : Some a ≡ Some g = sym (cond-false _ _ _ f) ∙ e in
    let same : a ≡ g = cc in
    record { low = omega arith; high = omega arith; is_open = subst (λ (i : ℕ). is_settled s i ≡ false) same f; below = λ h l m. absurd (omega arith) })
    (cases_Bool (is_settled s a))

same_unproved : (n k g m l h : ℕ) → slip.Unproved n k g ≡ slip.Unproved m l h → (k ≡ l) × (g ≡ h)
same_unproved n k g m l h e = (cc, cc)

-- an accepted step is one of an open case
open_by : {X : Type 0} (o : Option ℕ) (e : Refusal) (x : Result X Refusal) (y : X) → on_some o (Err e) (λ _. x) ≡ Ok y → (k : ℕ) × (o ≡ Some k)
open_by None e x y q = absurd (err_ok y e q)
open_by (Some k) e x y q = (k, refl)

module _ (r : Rules) (bound : r.goals ≤ 16384) where
  open_at : (s : State) (p : Step) (y : ℕ × State) → step_result r s p ≡ Ok y → (k : ℕ) × (s.case ≡ Some k)
  open_at s (step.Premise p) y e =
      ⊎_elim (λ t. open_by s.case _ _ y (sym (cond-true _ _ _ t) ∙ e)) (λ f. absurd (err_ok y _ (sym (cond-false _ _ _ f) ∙ e))) (cases_Bool (r.admits p))
  open_at s (step.Resolve first second position) y e = open_by s.case _ _ y e
  open_at s (step.Settle g c) y e = open_by s.case _ _ y e

  -- what an open case holds
  pub record Holds (s : State) (done : List Step) : Type 0 where
    pub accepted : r.opening ≡ Ok tt
    pub clauses : AllByRecursion Fit s.list
    pub derived : Derives r done s.list
    pub marks : (g k : ℕ) → Contains done (step.Settle g k) → is_settled s g ≡ true
    pub settled_by : (g : ℕ) → 1 ≤ g → is_settled s g ≡ true → SettledBy r done s.list g
    pub long : length s.settled ≡ 16384

  abbrev pub Stands : State → List Step → Type 0
  Stands s done = (k : ℕ) → s.case ≡ Some k → Holds s done

  not_settling : {cs : List (List Entry)} {p : Step} {c : List Entry} (g k : ℕ) → Allows r cs p c → step.Settle g k ≡ p → ⊥
  not_settling g k (premise p claimed a e f calm) q = cc
  not_settling g k (resolve first second position a b v calm) q = cc

  pushed_holds : (s : State) (done : List Step) (p : Step) (c : List Entry) (settled : List Bool) (o : Option ℕ) → settled ≡ s.settled → Holds s done → Allows r s.list p c → Fit c → Holds (record { case = o; list = s.list ++ c ∷ []; settled = settled }) (done ++ p ∷ [])
  pushed_holds s done p c settled o same h a fit =
      record {
        accepted = h.accepted;
        clauses = All-push Fit s.list c h.clauses fit;
        derived = more p h.derived a;
        marks = λ g k m. ap (λ (l : List Bool). get_or l (g - 1) false) same ∙ ⊎_elim (λ b. h.marks g k b) (λ e. absurd (not_settling g k a (sym e))) (Contains-push_cases done p (step.Settle g k) m);
        settled_by =
            λ g pos e.
            let b = h.settled_by g pos (ap (λ (l : List Bool). get_or l (g - 1) false) (sym same) ∙ e) in
            (b.0, Contains-append_left done (p ∷ []) (step.Settle g b.0) b.1, filed_push s.list c b.0 b.2, λ x l. b.3 x (subst (LiteralOf x) (clause_push s.list c b.0 b.2) l));
        long = ap length same ∙ h.long;
      }

  marked_holds : (s : State) (done : List Step) (g c : ℕ) (o : Option ℕ) → Holds s done → Settles r s g c → Holds (record { case = o; list = s.list; settled = set s.settled (g - 1) true }) (done ++ step.Settle g c ∷ [])
  marked_holds s done g c o h t =
      let low : 1 ≤ g = t.0 in
      let high : g ≤ r.goals = t.1 in
      let long : length s.settled ≡ 16384 = h.long in
      let inside : g - 1 < length s.settled = omega arith in
      record {
        accepted = h.accepted;
        clauses = h.clauses;
        derived = settling g c h.derived;
        marks =
            λ i k m.
            ⊎_elim
            (λ same. ap (λ (j : ℕ). get_or (set s.settled (g - 1) true) j false) same ∙ get_or-set_same s.settled (g - 1) true false inside)
            (λ other.
            get_or-set_other s.settled (g - 1) (i - 1) true false other
            ∙ ⊎_elim (λ b. h.marks i k b) (λ e. let z : i ≡ g = cc in absurd (other (ap (λ (j : ℕ). j - 1) z))) (Contains-push_cases done (step.Settle g c) (step.Settle i k) m))
            (cases_eq (i - 1) (g - 1));
        settled_by =
            λ i pos e.
            ⊎_elim
            (λ same. subst (SettledBy r (done ++ step.Settle g c ∷ []) s.list) (sym same) (c, Contains-push done (step.Settle g c), t.2, t.3))
            (λ other.
            let b = h.settled_by i pos (sym (get_or-set_other s.settled (g - 1) (i - 1) true false (λ z. other (omega arith))) ∙ e) in
            (b.0, Contains-append_left done (step.Settle g c ∷ []) (step.Settle i b.0) b.1, b.2, b.3))
            (cases_eq i g);
        long = length-set s.settled (g - 1) true ∙ long;
      }

  -- one step more
  filed_holds : (s : State) (done : List Step) (p : Step) (y : ℕ × State) (k : ℕ) (e : s.case ≡ Some k) → Holds s done → step_result r s p ≡ Ok y → (c : List Entry) → Allows r s.list p c → Holds y.1 (done ++ p ∷ [])
  filed_holds s done p y k e h q c a =
      ⊎_elim
      (λ o. absurd (err_ok y o.refuses.0 (sym o.refuses.1 ∙ q)))
      (λ o. subst (λ (z : ℕ × State). Holds z.1 (done ++ p ∷ [])) (same_ok _ y (sym o.is ∙ q)) (pushed_holds s done p c s.settled s.case refl h a o.fit))
      (outcome r s k e h.clauses p c a)

  step_holds : (s : State) (done : List Step) (p : Step) (y : ℕ × State) (k : ℕ) → s.case ≡ Some k → Holds s done → step_result r s p ≡ Ok y → Holds y.1 (done ++ p ∷ [])
  step_holds s done (step.Premise p) y k e h q = let a = premise_accepted r s k e h.clauses p y q in filed_holds s done (step.Premise p) y k e h q a.0 a.1
  step_holds s done (step.Resolve first second position) y k e h q = let a = resolve_accepted r s k e h.clauses first second position y q in filed_holds s done (step.Resolve first second position) y k e h q a.0 a.1
  step_holds s done (step.Settle g c) y k e h q =
      let m = settle_marks r s k e h.clauses g c y q in
      subst (λ (z : ℕ × State). Holds z.1 (done ++ step.Settle g c ∷ [])) (sym m.is) (marked_holds s done g c s.case h m.settles)

  stands_by : (s : State) (done : List Step) (p : Step) (x : Result (ℕ × State) Refusal) → Stands s done → ((y : ℕ × State) → x ≡ Ok y → Holds y.1 (done ++ p ∷ [])) → Stands (stepped_state s x) (noted_if x (done ++ p ∷ []) done)
  stands_by s done p (Ok y) h w k e = w y refl
  stands_by s done p (Err f) h w k e = h k e

  step_stands : (s : State) (done : List Step) (p : Step) → Stands s done → Stands (stepped_state s (step_result r s p)) (noted_if (step_result r s p) (done ++ p ∷ []) done)
  step_stands s done p h = stands_by s done p (step_result r s p) h (λ y q. let o = open_at s p y q in step_holds s done p y o.0 o.1 (h o.0 o.1) q)

  take_stands : (s : State) (done : List Step) (bytes : List ℕ) (o : Result Step Refusal) → step_from bytes ≡ o → Stands s done → Stands (stepped_state s (take_result r s bytes)) (noted_take o r s bytes done)
  take_stands s done bytes (Ok p) e h =
      subst (λ (x : Result (ℕ × State) Refusal). Stands (stepped_state s x) (noted_if x (done ++ p ∷ []) done)) (sym (ap (λ (o : Result Step Refusal). on_ok o (λ q. step_result r s q)) e)) (step_stands s done p h)
  take_stands s done bytes (Err f) e h =
      subst (λ (x : Result (ℕ × State) Refusal). Stands (stepped_state s x) done) (sym (ap (λ (o : Result Step Refusal). on_ok o (λ q. step_result r s q)) e)) h

  abbrev OpensWell : State → List Step → Result State Refusal → Type 0
  OpensWell s done x = Stands (opened_state s x) (noted_if x [] done)

  open_stands : (s : State) (done : List Step) (n : ℕ) → Stands s done → OpensWell s done (opened r s n)
  open_stands s done n h =
      case_both (OpensWell s done) s.case _ _
      (λ _.
      ok_both (OpensWell s done) (λ _. h) r.opening _
      (λ u e k ke.
      record {
        accepted = e;
        clauses = tt;
        derived = nothing;
        marks = λ g i a. let none : a.0 < 0 = a.1 in absurd (omega arith);
        settled_by = λ g pos se. absurd (false≢true (sym (none_settled 16384 (g - 1)) ∙ se));
        long = length-replicate 16384 false;
      }))
      (λ _ _. h)

  pub next_stands : (s : State) (done : List Step) (c : Call) → Stands s done → Stands (next r s c) (noted r s done c)
  next_stands s done (opens n) h = open_stands s done n h
  next_stands s done (steps p) h = step_stands s done p h
  next_stands s done (takes bytes) h = take_stands s done bytes (step_from bytes) refl h
  next_stands s done (closes n) h = cond_both (is_case s n) _ _ (λ (t : State). Stands t done) (λ _ k e. absurd (none_some k e)) (λ _. h)

  pub run_stands : (s : State) (done : List Step) (cs : List Call) → Stands s done → Stands (run r s cs) (history r s done cs)
  run_stands s done [] h = h
  run_stands s done (c ∷ cs) h = run_stands (next r s c) (noted r s done c) cs (next_stands s done c h)

  -- how the open case ends
  module _ (s : State) (done : List Step) (n : ℕ) (e : s.case ≡ Some n) (h : Holds s done) where
    ending_is : close_slip r s n ≡ ending r s n
    ending_is = cond-true _ _ _ (ap (λ (o : Option ℕ). on_some o false (λ k. eqb k n)) e ∙ eq-eqb n n refl)

    all_verdict : ((g : ℕ) → 1 ≤ g → g ≤ r.goals → SettledBy r done s.list g) → close_slip r s n ≡ verdict_slip r.says n (length s.list)
    all_verdict all =
        ending_is
        ∙ ap (λ (o : Option ℕ). on_some o (verdict_slip r.says n (length s.list)) (λ g. slip.Unproved n (length s.list) g))
        (all_lowest s r.goals 1 (λ g low high. let b = all g low (omega arith) in h.marks g b.0 b.1))

    verdict_all : (k : ℕ) → close_slip r s n ≡ verdict_slip r.says n k → (g : ℕ) → 1 ≤ g → g ≤ r.goals → SettledBy r done s.list g
    verdict_all k q =
        case_both (λ (x : Slip). x ≡ verdict_slip r.says n k → (g : ℕ) → 1 ≤ g → g ≤ r.goals → SettledBy r done s.list g) (lowest_open s 1 r.goals) _ _
        (λ none _ g low high. h.settled_by g low (lowest_all s r.goals 1 none g low (omega arith)))
        (λ i _ z. absurd (unproved_never r.says n (length s.list) i n k z))
        (sym ending_is ∙ q)

    unproved_lowest : (g k : ℕ) → close_slip r s n ≡ slip.Unproved n k g → (1 ≤ g) × (g ≤ r.goals) × (k ≡ length s.list) × (SettledBy r done s.list g → ⊥) × ((i : ℕ) → 1 ≤ i → i < g → SettledBy r done s.list i)
    unproved_lowest g k q =
        case_both (λ (x : Slip). x ≡ slip.Unproved n k g → (1 ≤ g) × (g ≤ r.goals) × (k ≡ length s.list) × (SettledBy r done s.list g → ⊥) × ((i : ℕ) → 1 ≤ i → i < g → SettledBy r done s.list i)) (lowest_open s 1 r.goals) _ _
        (λ _ z. absurd (unproved_never r.says n k g n (length s.list) (sym z)))
        (λ i e z.
        let same = same_unproved n (length s.list) i n k g z in
        let first = lowest_first s r.goals 1 g (e ∙ ap Some same.1) in
        let from : 1 ≤ g = first.low in
        let to : g < 1 + r.goals = first.high in
        (from, omega arith, sym same.0, λ b. both_ways _ first.is_open (h.marks g b.0 b.1), λ i low less. h.settled_by i low (first.below i low less)))
        (sym ending_is ∙ q)

-- every run is lawful
pub all_runs_lawful : (r : Rules) → r.goals ≤ 16384 → AllRunsLawful r
all_runs_lawful r bound list calls n e =
    let s : State = run r (start list) calls in
    let done : List Step = history r (start list) [] calls in
    let h = run_stands r bound (start list) [] calls (λ k z. absurd (none_some k z)) n e in
    record {
      derived = h.derived;
      steps_are = lawful_steps r s n e h.clauses;
      settlings_are = lawful_settlings r s n e h.clauses;
      gives_verdict = all_verdict r bound s done n e h;
      verdict_only = verdict_all r bound s done n e h;
      unproved = unproved_lowest r bound s done n e h;
    }
