-- How taking a record of an examiner goes on with a replay, or ends it.
use Rattle.std.proofs.Common.{◌≡◌, ℕ, ◌+◌, ◌<◌, ◌≤◌, false, eqb, List, length, drop, Some, Ok, Err, Result, sym, refl, ap, ◌∙◌, arith}
use Rattle.std.proofs.lemmas.Bool.{ne_eqb}
use Rattle.std.proofs.lemmas.List.{length-drop, drop-drop}
use Rattle.base.specs.declared.faults.Fault.{Fault}
use Rattle.base.specs.Causes.{Refusal, told, answered}
use Rattle.engine.specs.declared.examiner.Examiner.{Examiner}
use Rattle.engine.specs.declared.shelf.Shelf.{Ghosts as ShelfGhosts}
use Rattle.engine.specs.declared.side.Side.{Ghosts as SideGhosts}
use Rattle.engine.specs.Means.{rules_of, state_of, number_of, after, Kept, Takes}
use Rattle.engine.specs.Plain.{Rules, State, take_result}
use Rattle.engine.proofs.RowLaws.{err_ok}
use Rattle.replay.specs.Replay.{taken, take_turns, take_all}
use Rattle.replay.specs.Reports.{TakesAll}
use Rattle.replay.proofs.TurnLaws.{used_some, one_more, refused_next}

module _ {S F : Type 0} (side : SideGhosts S) (shelf : ShelfGhosts F) where
  -- After n records of so many bytes those that are left give what the whole proof gives; each record used a byte.
  pub record GoesOn (proof : List ℕ) (n bytes : ℕ) (was is : Examiner S F side shelf) : Type 0 where
    pub all : take_turns (length (drop bytes proof)) (rules_of side shelf was) (state_of side shelf is) n bytes (drop bytes proof) ≡ take_all (rules_of side shelf was) (state_of side shelf was) proof
    pub kept : Kept side shelf was is
    pub few : n ≤ bytes
    pub within : bytes ≤ length proof

  accepted_is : (o : Result (ℕ × State) Refusal) (k : ℕ) → ◌≡◌ {A = Result ℕ Refusal} (Ok k) (number_of side shelf o) → (x : ℕ × State) × (o ≡ Ok x)
  accepted_is (Ok x) k e = (x, refl)
  accepted_is (Err f) k e = absurd (err_ok k f (sym e))

  refused_is : (o : Result (ℕ × State) Refusal) (f : Refusal) → ◌≡◌ {A = Result ℕ Refusal} (Err f) (number_of side shelf o) → o ≡ Err f
  refused_is (Ok x) f e = absurd (err_ok x.0 f e)
  refused_is (Err h) f e = let same : h ≡ f = cc in ap Err same

  module _ (rest : List ℕ) (y : Result ℕ Fault) (used : ℕ) (mid is : Examiner S F side shelf) (t : Takes side shelf rest y used mid is) where
    abbrev r : Rules
    r = rules_of side shelf mid

    abbrev s : State
    s = state_of side shelf mid

    accepted : (k : ℕ) → y ≡ Ok k → (x : ℕ × State) × (take_result r s rest ≡ Ok x)
    accepted k e = accepted_is (take_result r s rest) k (ap answered (sym e) ∙ t.steps.answer)

    -- an accepted record used at least one byte, and at most all
    pub taken_some : (k : ℕ) → y ≡ Ok k → (1 ≤ used) × (used ≤ length rest)
    taken_some k e =
        let x = accepted k e in
        let uses = used_some rest r s x.0 x.1 in
        (omega (arith, t.used_bytes), omega (arith, t.used_bytes))

  module _ (proof : List ℕ) (n bytes : ℕ) (was mid : Examiner S F side shelf) (h : GoesOn proof n bytes was mid) where
    module _ (y : Result ℕ Fault) (used : ℕ) (is : Examiner S F side shelf) (t : Takes side shelf (drop bytes proof) y used mid is) (some : bytes < length proof) where
      abbrev left : List ℕ
      left = drop bytes proof

      kept_on : Kept side shelf was is
      kept_on =
          record { side_same = t.steps.kept.side_same ∙ h.kept.side_same; rules_same = t.steps.kept.rules_same ∙ h.kept.rules_same }

      some_left : eqb (length left) 0 ≡ false
      some_left = let long = length-drop bytes proof in ne_eqb (length left) 0 (λ e. omega arith)

      from_mid : take_turns (length left) (rules_of side shelf mid) (state_of side shelf mid) n bytes left ≡ take_all (rules_of side shelf was) (state_of side shelf was) proof
      from_mid =
          ap (λ (q : Rules). take_turns (length left) q (state_of side shelf mid) n bytes left) h.kept.rules_same ∙ h.all

      -- an accepted record leads on
      pub taken_more : (k : ℕ) → y ≡ Ok k → GoesOn proof (n + 1) (bytes + used) was is
      taken_more k e =
          let r : Rules = rules_of side shelf mid in
          let s : State = state_of side shelf mid in
          let x = accepted left y used mid is t k e in
          let uses = taken_some left y used mid is t k e in
          let long = length-drop bytes proof in
          let few = h.few in
          let behind : drop used left ≡ drop (bytes + used) proof = drop-drop used bytes proof in
          let state : state_of side shelf is ≡ x.0.1 = t.steps.state ∙ ap (after side shelf s) x.1 in
          record {
            all = cc (state, h.kept.rules_same, behind, t.used_bytes, one_more r s n bytes left x.0 some_left x.1, from_mid);
            kept = kept_on;
            few = omega arith;
            within = omega arith;
          }

      -- a refused one ends it
      pub taken_refused : (f : Fault) → y ≡ Err f → TakesAll side shelf proof (record { records = n; bytes = bytes; refusal = Some f }) was is
      taken_refused f e =
          let r : Rules = rules_of side shelf mid in
          let s : State = state_of side shelf mid in
          let no : take_result r s left ≡ Err (told f) = refused_is (take_result r s left) (told f) (ap answered (sym e) ∙ t.steps.answer) in
          let state : state_of side shelf is ≡ s = t.steps.state ∙ ap (after side shelf s) no in
          record {
            all =
                ap (λ (q : State). taken q n bytes (Some (told f))) state
                ∙ sym (refused_next r s n bytes left (told f) some_left no) ∙ from_mid;
            kept = kept_on;
          }
