-- The plain case, from the opening of a case to its closing.
use Rattle.std.proofs.Common.{◌≡◌, ℕ, Bool, true, false, cond, List, [], ◌∷◌, get_or, set, Ok, Err, Some, refl, ap, ◌∙◌}
use Rattle.std.proofs.lemmas.Bool.{eq-eqb}
use Rattle.base.proofs.WordLaws.{equal_itself}
use Rattle.base.specs.Causes.{Refusal}
use Rattle.base.specs.Words.{empty_word}
use Rattle.records.specs.declared.slip.Slip.{Slip}
use Rattle.records.specs.declared.slip.Slip.TheVariants as slip
use Rattle.records.specs.declared.step.Premise.TheVariants as premise
use Rattle.engine.specs.declared.shelf.Shelf.{Ghosts as ShelfGhosts}
use Rattle.engine.specs.declared.side.Side.{Ghosts as SideGhosts}
use Rattle.engine.specs.declared.side.Verdict.TheVariants as verdict
use Rattle.engine.specs.Means.{after}
use Rattle.engine.specs.Plain.{Rules, State, premise_step, settle_step, close_slip}
use Rattle.engine.specs.Shelves.{has_room}
use Rattle.trial.specs.Trial.{positive, trial_opening, trial_admits, trial_claim, trial_goals, trial_goal}
use Rattle.trial.specs.Script.{script_slip}

module _ {S F : Type 0} (side : SideGhosts S) (shelf : ShelfGhosts F) (K W case : ℕ) (settled : List Bool) (none : get_or settled 0 false ≡ false) (one : get_or (set settled 0 true) 0 false ≡ true) where
  abbrev pub R : Rules
  R =
      record {
        opening = trial_opening 1;
        admits = trial_admits;
        claim = trial_claim;
        goals = trial_goals 1;
        goal = trial_goal;
        says = verdict.True;
        most = K;
        width = W;
      }

  -- what is held after the opening, and, as the shelf has room or not, after the premise and after the settling
  abbrev pub opened : State
  opened = record { case = Some case; list = []; settled = settled }

  abbrev filed : Bool → State
  filed true = record { case = Some case; list = (positive 1 ∷ []) ∷ []; settled = settled }
  filed false = opened

  abbrev done : Bool → State
  done true = record { case = Some case; list = (positive 1 ∷ []) ∷ []; settled = set settled 0 true }
  done false = opened

  abbrev room : Bool
  room = has_room K W [] (positive 1 ∷ [])

  after_cond : (s t : State) (n : ℕ) (e : Refusal) (b : Bool) → after side shelf s (cond b (Ok (n, t)) (Err e)) ≡ cond b t s
  after_cond s t n e true = refl
  after_cond s t n e false = refl

  by_room : (b : Bool) → cond b (filed true) opened ≡ filed b
  by_room true = refl
  by_room false = refl

  files : after side shelf opened (premise_step R opened (premise.Truth 0 1 0)) ≡ filed room
  files = after_cond opened (filed true) 1 _ room ∙ by_room room

  settles : (b : Bool) → after side shelf (filed b) (settle_step R (filed b) 1 1) ≡ done b
  settles true = rw (equal_itself empty_word, none) refl
  settles false = refl

  closes : (b : Bool) → close_slip R (done b) case ≡ cond b (slip.True case 1) (slip.Unproved case 0 1)
  closes true = rw (eq-eqb case case refl, one) refl
  closes false = rw (eq-eqb case case refl, none) refl

  -- whatever states are led through by these calls, the slip is the one that the script ends with
  pub ends : (t₁ t₂ t₃ : State) (x : Slip) (n : ℕ) → t₁ ≡ opened → t₂ ≡ after side shelf t₁ (premise_step R t₁ (premise.Truth 0 1 0)) → t₃ ≡ after side shelf t₂ (settle_step R t₂ 1 1) → n ≡ case → x ≡ close_slip R t₃ n → Some x ≡ script_slip K W case
  ends t₁ t₂ t₃ x n e₁ e₂ e₃ e₄ e₅ =
      let f₂ : t₂ ≡ filed room = e₂ ∙ ap (λ t. after side shelf t (premise_step R t (premise.Truth 0 1 0))) e₁ ∙ files in
      let f₃ : t₃ ≡ done room = e₃ ∙ ap (λ t. after side shelf t (settle_step R t 1 1)) f₂ ∙ settles room in
      ap Some (e₅ ∙ ap (λ t. close_slip R t n) f₃ ∙ ap (close_slip R (done room)) e₄ ∙ closes room)
