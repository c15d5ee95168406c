-- Turns of taking records: each uses some bytes, so as many turns as there are bytes suffice.
use Rattle.std.proofs.Common.{◌≡◌, ℕ, zero, suc, ◌+◌, ◌-◌, ◌<◌, ◌≤◌, true, false, cond, ◌&&◌, eqb, leb, List, [], ◌∷◌, length, get_or, drop, Some, None, Ok, Err, Result, sym, refl, ap, ◌∙◌, ⊎_elim, arith}
use Rattle.std.proofs.lemmas.List.{length-drop}
use Rattle.std.proofs.lemmas.Bool.{cond-true, cond-false, cases_Bool, and_parts, leb-true, eq-eqb, eqb-false}
use Rattle.base.specs.Causes.{Refusal}
use Rattle.records.specs.declared.step.Step.{Step}
use Rattle.records.specs.Records.{begins, malformed, step_from, rest_from}
use Rattle.engine.specs.Plain.{Rules, State, on_ok, step_result, take_result, take_used}
use Rattle.engine.specs.Runs.{Call, takes, stepped_state, run}
use Rattle.engine.proofs.RowLaws.{err_ok}
use Rattle.replay.specs.Replay.{TakenRecords, taken, on_result, take_turns}

on_both : {X Y Z : Type 0} (o : Result X Y) → ((x : X) → o ≡ Ok x → Z) → ((y : Y) → o ≡ Err y → Z) → Z
on_both (Ok x) f g = f x refl
on_both (Err y) f g = g y refl

one_less : (n : ℕ) → eqb n 0 ≡ false → n ≡ suc (n - 1)
one_less n e = let other : n ≡ 0 → ⊥ = eqb-false n 0 e in omega arith

begins_long : (bs : List ℕ) (long kind : ℕ) → begins bs long kind ≡ true → long + 2 ≤ length bs
begins_long bs long kind e =
    leb-true (long + 2) (length bs) (and_parts (eqb (get_or bs 0 0) 0 && eqb (get_or bs 1 0) long && eqb (get_or bs 2 0) 1 && eqb (get_or bs 3 0) kind) (leb (long + 2) (length bs)) e).1

module _ (bs : List ℕ) where
  -- what is left behind an accepted record is shorter
  abbrev Shorter : Result Step Refusal → List ℕ → Type 0
  Shorter o rest = (p : Step) → o ≡ Ok p → length rest < length bs

  by_test : (long kind : ℕ) (o other : Result Step Refusal) (rest : List ℕ) → Shorter other rest → Shorter (cond (begins bs long kind) o other) (cond (begins bs long kind) (drop (long + 2) bs) rest)
  by_test long kind o other rest h p e =
      ⊎_elim
      (λ t. let long_enough = begins_long bs long kind t in omega (arith, ap length (cond-true (begins bs long kind) (drop (long + 2) bs) rest t), length-drop (long + 2) bs))
      (λ f. let less = h p (sym (cond-false (begins bs long kind) o other f) ∙ e) in omega (arith, ap length (cond-false (begins bs long kind) (drop (long + 2) bs) rest f)))
      (cases_Bool (begins bs long kind))

  read_shorter : Shorter (step_from bs) (rest_from bs)
  read_shorter = by_test 6 1 _ _ _ (by_test 12 2 _ _ _ (by_test 12 3 _ _ _ (by_test 8 4 _ _ _ (λ p e. absurd (err_ok p malformed e)))))

  module _ (r : Rules) (s : State) (x : ℕ × State) (e : take_result r s bs ≡ Ok x) where
    used_is : take_used r s bs ≡ length bs - length (rest_from bs)
    used_is = rw e

    read_is : (o : Result Step Refusal) → step_from bs ≡ o → (p : Step) × (step_from bs ≡ Ok p)
    read_is (Ok p) q = (p, q)
    read_is (Err f) q = absurd (err_ok x f (sym (ap (λ (o : Result Step Refusal). on_ok o (λ p. step_result r s p)) q) ∙ e))

    -- an accepted record uses at least one byte, and at most all
    pub used_some : (1 ≤ take_used r s bs) × (take_used r s bs ≤ length bs)
    used_some =
        let read = read_is (step_from bs) refl in
        let less = read_shorter read.0 read.1 in
        (omega (arith, used_is), omega (arith, used_is))

module _ (r : Rules) where
  -- a turn at some bytes, by what their first record answers
  turn_by : (turns : ℕ) (s : State) (n used : ℕ) (bs : List ℕ) (o : Result (ℕ × State) Refusal) → eqb (length bs) 0 ≡ false → take_result r s bs ≡ o → take_turns (suc turns) r s n used bs ≡ on_result o (λ x. take_turns turns r x.1 (n + 1) (used + take_used r s bs) (drop (take_used r s bs) bs)) (λ f. taken s n used (Some f))
  turn_by turns s n used bs o some e =
      cond-false _ _ _ some
      ∙ ap (λ (p : Result (ℕ × State) Refusal). on_result p (λ x. take_turns turns r x.1 (n + 1) (used + take_used r s bs) (drop (take_used r s bs) bs)) (λ f. taken s n used (Some f))) e

  no_turn : (turns : ℕ) (s : State) (n used : ℕ) (bs : List ℕ) → length bs ≡ 0 → take_turns turns r s n used bs ≡ taken s n used None
  no_turn zero s n used bs e = refl
  no_turn (suc turns) s n used bs e = cond-true _ _ _ (eq-eqb (length bs) 0 e)

  -- any two numbers of turns that suffice give the same
  turns_same : (more others : ℕ) (s : State) (n used : ℕ) (bs : List ℕ) → length bs ≤ more → length bs ≤ others → take_turns more r s n used bs ≡ take_turns others r s n used bs
  turns_same zero others s n used bs h k = sym (no_turn others s n used bs (omega arith))
  turns_same (suc more) zero s n used bs h k = no_turn (suc more) s n used bs (omega arith)
  turns_same (suc more) (suc others) s n used bs h k =
      ⊎_elim
      (λ e. cond-true _ _ _ e ∙ sym (cond-true _ _ _ e))
      (λ some.
      on_both (take_result r s bs)
      (λ x e.
      let uses = used_some bs r s x e in
      let left = length-drop (take_used r s bs) bs in
      turn_by more s n used bs (Ok x) some e
      ∙ turns_same more others x.1 (n + 1) (used + take_used r s bs) (drop (take_used r s bs) bs) (omega arith) (omega arith)
      ∙ sym (turn_by others s n used bs (Ok x) some e))
      (λ f e. turn_by more s n used bs (Err f) some e ∙ sym (turn_by others s n used bs (Err f) some e)))
      (cases_Bool (eqb (length bs) 0))

  -- where the record in front is accepted, what is left behind it gives the same
  pub one_more : (s : State) (n used : ℕ) (bs : List ℕ) (x : ℕ × State) → eqb (length bs) 0 ≡ false → take_result r s bs ≡ Ok x → take_turns (length bs) r s n used bs ≡ take_turns (length (drop (take_used r s bs) bs)) r x.1 (n + 1) (used + take_used r s bs) (drop (take_used r s bs) bs)
  one_more s n used bs x some e =
      let long : length bs ≡ suc (length bs - 1) = one_less (length bs) some in
      let uses = used_some bs r s x e in
      let left = length-drop (take_used r s bs) bs in
      ap (λ (k : ℕ). take_turns k r s n used bs) long ∙ turn_by (length bs - 1) s n used bs (Ok x) some e
      ∙ turns_same (length bs - 1) (length (drop (take_used r s bs) bs)) x.1 (n + 1) (used + take_used r s bs) (drop (take_used r s bs) bs) (omega arith) (omega arith)

  -- where it is refused, nothing more is taken
  pub refused_next : (s : State) (n used : ℕ) (bs : List ℕ) (f : Refusal) → eqb (length bs) 0 ≡ false → take_result r s bs ≡ Err f → take_turns (length bs) r s n used bs ≡ taken s n used (Some f)
  refused_next s n used bs f some e =
      let long : length bs ≡ suc (length bs - 1) = one_less (length bs) some in
      ap (λ (k : ℕ). take_turns k r s n used bs) long ∙ turn_by (length bs - 1) s n used bs (Err f) some e

-- the state that turns leave is the one that some calls lead to
pub turns_run : (turns : ℕ) (r : Rules) (s : State) (n used : ℕ) (bs : List ℕ) → (calls : List Call) × ((take_turns turns r s n used bs).state ≡ run r s calls)
turns_run zero r s n used bs = ([], refl)
turns_run (suc turns) r s n used bs =
    ⊎_elim
    (λ e. ([], ap (λ (t : TakenRecords). t.state) (cond-true _ _ _ e)))
    (λ some.
    on_both (take_result r s bs)
    (λ x e.
    let more = turns_run turns r x.1 (n + 1) (used + take_used r s bs) (drop (take_used r s bs) bs) in (
      takes bs ∷ more.0,
      ap (λ (t : TakenRecords). t.state) (turn_by r turns s n used bs (Ok x) some e) ∙ more.1
          ∙ ap (λ (t : State). run r t more.0) (sym (ap (stepped_state s) e)),
    ))
    (λ f e. ([], ap (λ (t : TakenRecords). t.state) (turn_by r turns s n used bs (Err f) some e))))
    (cases_Bool (eqb (length bs) 0))
