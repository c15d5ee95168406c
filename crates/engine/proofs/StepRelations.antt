-- Steps and settlings at a state with an open case whose clauses fit: those that the rules allow, and no others.
use Rattle.std.proofs.Common.{◌≡◌, ℕ, ◌+◌, ◌-◌, ◌≤◌, true, false, ◌&&◌, ltb, leb, ◌⊎◌, List, [], ◌∷◌, ◌++◌, length, set, Some, None, Ok, Err, Option, Result, sym, refl, ap, ◌∙◌, subst, inl, inr, ⊎_elim, arith}
use Rattle.std.specs.List.{AllByRecursion}
use Rattle.std.proofs.lemmas.Bool.{both_ways, cond_both, cond-true, cond-false, cases_Bool, and_parts, and_from, le-leb, ltb-true, ltb-false}
use Rattle.base.specs.Causes.{Refusal, refused}
use Rattle.clauses.specs.declared.entry.Entry.{Entry}
use Rattle.clauses.specs.Worlds.{same_entry, complement_entry}
use Rattle.clauses.specs.Clauses.{Joined, joined, contained, once, filed, member, pivot_at, resolved_by}
use Rattle.records.specs.declared.step.Premise.{Premise}
use Rattle.records.specs.declared.step.Step.{Step}
use Rattle.records.specs.declared.step.Step.TheVariants as step
use Rattle.engine.specs.Shelves.{clause_at, has_room}
use Rattle.engine.specs.Plain.{Rules, State, on_ok, on_some, here, judged, file, numbered, open_case, premise_step, resolve_step, is_settled, are_there, settle_step, step_result}
use Rattle.engine.specs.Histories.{Once, Consistent, Resolvent, Filed, Allows, premise, resolve, TooMuch, Accepted, Refused, Settles}
use Rattle.engine.specs.Lawful.{LawfulSteps, LawfulSettlings}
use Rattle.engine.proofs.RowLaws.{err_ok, same_ok, numbered_filed, filed_all, there_parts}
use Rattle.engine.proofs.Ways.{case_both, judged_both, filed_parts}
use Rattle.engine.proofs.ClauseRelations.{KeptOnce, once_first, first_kept, first_once, contained_all, all_contained, resolves, resolvent_from, resolvent_once, from_resolvent}

-- a clause as a step files it
pub record Fit (c : List Entry) : Type 0 where
  pub once_each : Once c
  pub consistent : Consistent c
  pub short : length c ≤ 1024

resolved_parts : (o : Option Entry) (first second : List Entry) (position : ℕ) (d : List Entry) → Consistent first → pivot_at complement_entry first position ≡ o → resolved_by same_entry complement_entry o first second position ≡ Ok d → Resolvent first second position d × Consistent d
resolved_parts None first second position d k pe e = absurd (err_ok d 16 e)
resolved_parts (Some x) first second position d k pe e =
    ⊎_elim
    (λ t.
    let parts = filed_parts (resolves first second x position) d (sym (cond-true _ _ _ t) ∙ e) in
    subst (λ (c : List Entry). Resolvent first second position c × Consistent c) parts.1 (resolvent_from first second position x k pe t parts.0))
    (λ f. absurd (err_ok d 18 (sym (cond-false _ _ _ f) ∙ e)))
    (cases_Bool (member same_entry x second))

module _ (r : Rules) (s : State) (k : ℕ) (opened : s.case ≡ Some k) (fits : AllByRecursion Fit s.list) where
  open_is : {X : Type 0} (x : Result X Refusal) → open_case s x ≡ x
  open_is {X} x = ap (λ (o : Option ℕ). on_some o (Err (here s 15)) (λ _. x)) opened

  pub fit_at : (n : ℕ) → Filed s.list n → Fit (clause_at s.list n)
  fit_at n f = filed_all Fit s.list n fits f

  numbered_at : (n : ℕ) → Filed s.list n → numbered s n ≡ true
  numbered_at n f =
      and_from (leb 1 n && leb n (length s.list)) (leb (length (clause_at s.list n)) 1024)
      (and_from (leb 1 n) (leb n (length s.list)) (le-leb 1 n f.0) (le-leb n (length s.list) f.1))
      (le-leb (length (clause_at s.list n)) 1024 (fit_at n f).short)

  -- what a step is that the rules allow
  allows_is : (p : Step) (c : List Entry) → Allows r s.list p c → step_result r s p ≡ on_ok (judged s (filed (joined c false))) (λ d. file r s d)
  allows_is q c (premise p claimed a e f calm) =
      cond-true _ _ _ a ∙ open_is _
      ∙ ap (λ (x : Result (List Entry) ℕ). on_ok (judged s x) (λ (l : List Entry). on_ok (judged s (filed (once same_entry complement_entry l))) (λ d. file r s d))) e
      ∙ ap (λ (j : Joined Entry). on_ok (judged s (filed j)) (λ d. file r s d)) (first_once claimed c f calm)
  allows_is q c (resolve first second position a b v calm) =
      let t = from_resolvent (clause_at s.list first) (clause_at s.list second) position c (fit_at second b).once_each v calm in
      open_is _ ∙ cond-true _ _ _ (and_from (numbered s first) (numbered s second) (numbered_at first a) (numbered_at second b))
      ∙ ap (λ (x : Result (List Entry) ℕ). on_ok (judged s x) (λ d. file r s d))
      (ap (λ (o : Option Entry). resolved_by same_entry complement_entry o (clause_at s.list first) (clause_at s.list second) position) t.there_is
      ∙ cond-true _ _ _ t.has ∙ ap (λ (j : Joined Entry). filed j) t.is)

  allows_fit : (p : Step) (c : List Entry) → Allows r s.list p c → length c ≤ 1024 → Fit c
  allows_fit q c (premise p claimed a e f calm) h = record { once_each = first_kept claimed c f calm; consistent = calm; short = h }
  allows_fit q c (resolve first second position a b v calm) h =
      record { once_each = resolvent_once (clause_at s.list first) (clause_at s.list second) position c (fit_at first a).once_each v; consistent = calm; short = h }

  abbrev pub pushed : List Entry → State
  pushed c = record { case = s.case; list = s.list ++ c ∷ []; settled = s.settled }

  abbrev pub marked : ℕ → State
  marked g = record { case = s.case; list = s.list; settled = set s.settled (g - 1) true }

  -- it is kept out where there is too much, and else filed
  pub record KeptOut (p : Step) (c : List Entry) : Type 0 where
    pub much : TooMuch r s.list c
    pub refuses : Refused (step_result r s p)

  pub record Appended (p : Step) (c : List Entry) : Type 0 where
    pub little : TooMuch r s.list c → ⊥
    pub fit : Fit c
    pub is : step_result r s p ≡ Ok (length s.list + 1, pushed c)

  pub outcome : (p : Step) (c : List Entry) → Allows r s.list p c → KeptOut p c ⊎ Appended p c
  outcome p c a =
      let e = allows_is p c a in
      ⊎_elim
      (λ long. inl (record { much = inr (ltb-true 1024 (length c) long); refuses = (here s 20, e ∙ ap (λ (x : Result (List Entry) ℕ). on_ok (judged s x) (λ d. file r s d)) (cond-true _ _ _ long)) }))
      (λ short.
      let h : length c ≤ 1024 = ltb-false 1024 (length c) short in
      let e₁ : step_result r s p ≡ file r s c = e ∙ ap (λ (x : Result (List Entry) ℕ). on_ok (judged s x) (λ d. file r s d)) (cond-false _ _ _ short) in
      ⊎_elim
      (λ t. inr (record { little = ⊎_elim (λ f. both_ways _ f t) (λ l. omega arith); fit = allows_fit p c a h; is = e₁ ∙ cond-true _ _ _ t }))
      (λ f. inl (record { much = inl f; refuses = (refused 21 (length s.list) 5, e₁ ∙ cond-false _ _ _ f) }))
      (cases_Bool (has_room r.most r.width s.list c)))
      (cases_Bool (ltb 1024 (length c)))

  -- what an accepted step is
  abbrev Allowed : Step → Result (ℕ × State) Refusal → Type 0
  Allowed p x = (y : ℕ × State) → x ≡ Ok y → (c : List Entry) × Allows r s.list p c

  errs_allowed : (p : Step) (e : Refusal) → Allowed p (Err e)
  errs_allowed p e y q = absurd (err_ok y e q)

  premise_allowed : (p : Premise) → Allowed (step.Premise p) (premise_step r s p)
  premise_allowed p =
      cond_both (r.admits p) _ _ (Allowed (step.Premise p))
      (λ a.
      case_both (Allowed (step.Premise p)) s.case _ _ (λ _. errs_allowed (step.Premise p) _)
      (λ _ _.
      judged_both (Allowed (step.Premise p)) (errs_allowed (step.Premise p)) s (r.claim p) _
      (λ c ce.
      judged_both (Allowed (step.Premise p)) (errs_allowed (step.Premise p)) s (filed (once same_entry complement_entry c)) _
      (λ d de y e.
      let parts = filed_parts (once same_entry complement_entry c) d de in
      let kept : KeptOnce c d = subst (KeptOnce c) parts.1 (once_first c parts.0) in
      (d, premise p c a ce kept.relation kept.consistent)))))
      (λ _. errs_allowed (step.Premise p) _)

  resolve_allowed : (first second position : ℕ) → Allowed (step.Resolve first second position) (resolve_step r s first second position)
  resolve_allowed first second position =
      case_both (Allowed (step.Resolve first second position)) s.case _ _ (λ _. errs_allowed (step.Resolve first second position) _)
      (λ _ _.
      cond_both (numbered s first && numbered s second) _ _ (Allowed (step.Resolve first second position))
      (λ both.
      let there = and_parts (numbered s first) (numbered s second) both in
      judged_both (Allowed (step.Resolve first second position)) (errs_allowed (step.Resolve first second position)) s (resolved_by same_entry complement_entry (pivot_at complement_entry (clause_at s.list first) position) (clause_at s.list first) (clause_at s.list second) position) _
      (λ d de y e.
      let parts = resolved_parts (pivot_at complement_entry (clause_at s.list first) position) (clause_at s.list first) (clause_at s.list second) position d (fit_at first (numbered_filed s first there.0)).consistent refl de in
      (d, resolve first second position (numbered_filed s first there.0) (numbered_filed s second there.1) parts.0 parts.1)))
      (λ _. errs_allowed (step.Resolve first second position) _))

  pub record Marked (g c : ℕ) (y : ℕ × State) : Type 0 where
    pub settles : Settles r s g c
    pub was_open : is_settled s g ≡ false
    pub is : y ≡ (0, marked g)

  abbrev Marks : ℕ → ℕ → Result (ℕ × State) Refusal → Type 0
  Marks g c x = (y : ℕ × State) → x ≡ Ok y → Marked g c y

  errs_marks : (g c : ℕ) (e : Refusal) → Marks g c (Err e)
  errs_marks g c e y q = absurd (err_ok y e q)

  pub settle_marks : (g c : ℕ) → Marks g c (settle_step r s g c)
  settle_marks g c =
      case_both (Marks g c) s.case _ _ (λ _. errs_marks g c _)
      (λ _ _.
      cond_both (are_there r s g c) _ _ (Marks g c)
      (λ there.
      cond_both (contained same_entry (clause_at s.list c) (r.goal g)) _ _ (Marks g c)
      (λ inside.
      cond_both (is_settled s g) _ _ (Marks g c) (λ _. errs_marks g c _)
      (λ still y e.
      let a = there_parts r s g c there in
      record {
        settles = (a.0, a.1, numbered_filed s c a.2, contained_all (clause_at s.list c) (r.goal g) inside);
        was_open = still;
        is = sym (same_ok (0, marked g) y e);
      }))
      (λ _. errs_marks g c _))
      (λ _. errs_marks g c _))

  allowed_by : (p : Step) (n : ℕ) (t : State) → 1 ≤ n → step_result r s p ≡ Ok (n, t) → (c : List Entry) × Allows r s.list p c
  allowed_by (step.Premise p) n t pos e = premise_allowed p (n, t) e
  allowed_by (step.Resolve first second position) n t pos e = resolve_allowed first second position (n, t) e
  allowed_by (step.Settle g c) n t pos e =
      let z : n ≡ 0 = ap (λ (y : ℕ × State). y.0) (settle_marks g c (n, t) e).is in absurd (omega arith)

  pub premise_accepted : (p : Premise) (y : ℕ × State) → step_result r s (step.Premise p) ≡ Ok y → (c : List Entry) × Allows r s.list (step.Premise p) c
  premise_accepted p y e = premise_allowed p y e

  pub resolve_accepted : (first second position : ℕ) (y : ℕ × State) → step_result r s (step.Resolve first second position) ≡ Ok y → (c : List Entry) × Allows r s.list (step.Resolve first second position) c
  resolve_accepted first second position y e = resolve_allowed first second position y e

  pub lawful_steps : LawfulSteps r s
  lawful_steps =
      record {
        refused = λ p c a x. ⊎_elim (λ o. o.much) (λ o. absurd (err_ok _ _ (sym x.1 ∙ o.is))) (outcome p c a);
        kept_out = λ p c a m. ⊎_elim (λ o. o.refuses) (λ o. absurd (o.little m)) (outcome p c a);
        appends =
            λ p c n t a e.
            ⊎_elim
            (λ o. absurd (err_ok (n, t) o.refuses.0 (sym o.refuses.1 ∙ e)))
            (λ o.
            let q = same_ok (length s.list + 1, pushed c) (n, t) (sym o.is ∙ e) in
            (sym (ap (λ (y : ℕ × State). y.0) q), sym (ap (λ (y : ℕ × State). y.1) q)))
            (outcome p c a);
        allowed = allowed_by;
      }

  settling_accepted : (g c : ℕ) → Settles r s g c → is_settled s g ≡ false → Accepted (step_result r s (step.Settle g c))
  settling_accepted g c h f = (
    (0, marked g),
    open_is _
        ∙ cond-true _ _ _ (and_from (leb 1 g && leb g r.goals) (numbered s c) (and_from (leb 1 g) (leb g r.goals) (le-leb 1 g h.0) (le-leb g r.goals h.1)) (numbered_at c h.2))
        ∙ cond-true _ _ _ (all_contained (clause_at s.list c) (r.goal g) h.3) ∙ cond-false _ _ _ f,
  )

  pub lawful_settlings : LawfulSettlings r s
  lawful_settlings =
      record {
        accepted = settling_accepted;
        allowed = λ g c n t e. let m = settle_marks g c (n, t) e in (m.settles, m.was_open);
        marks = λ g c n t e. let m = settle_marks g c (n, t) e in (ap (λ (y : ℕ × State). y.0) m.is, ap (λ (y : ℕ × State). y.1) m.is);
      }
