-- A side over numbered variables, all of which are true in its one world.
use Rattle.std.specs.Prelude.{ℕ, ◌+◌, ◌*◌, min, Bool, true, false, cond, List, [], ◌∷◌, Ok, Err, Result, ◌==◌, nat_le}
use Rattle.base.specs.Causes.{Refusal, refused}
use Rattle.base.specs.Words.{empty_word}
use Rattle.clauses.specs.declared.entry.Entry.{Entry}
use Rattle.records.specs.declared.step.Premise.{Premise}
use Rattle.records.specs.declared.step.Premise.TheVariants as premise

-- variable k and its negation
abbrev pub positive : ℕ → Entry
positive k = record { code = 2 * k; values = empty_word }

abbrev pub negative : ℕ → Entry
negative k = record { code = 2 * k + 1; values = empty_word }

-- class 0: variable k; class 1: the same, twice; class 2: k implies the next; class 3: k implies the next
-- or a further one; class 4: k or its negation
abbrev pub trial_class : ℕ → ℕ → Result (List Entry) ℕ
trial_class class k =
    cond (class == 0) (Ok (positive k ∷ []))
    (cond (class == 1) (Ok (positive k ∷ positive k ∷ []))
    (cond (class == 2) (Ok (negative k ∷ positive (k + 1) ∷ []))
    (cond (class == 3) (Ok (negative k ∷ positive (k + 1) ∷ positive (k + 65536) ∷ []))
    (cond (class == 4) (Ok (positive k ∷ negative k ∷ [])) (Err 16)))))

abbrev pub trial_claim : Premise → Result (List Entry) ℕ
trial_claim (premise.Truth class k part) = trial_class class k
trial_claim (premise.Falsity clause values) = Err 16

abbrev pub trial_admits : Premise → Bool
trial_admits (premise.Truth class k part) = true
trial_admits (premise.Falsity clause values) = false

-- goal g is variable g; there are at most 16,384, and more are refused
abbrev pub trial_goals : ℕ → ℕ
trial_goals n = min n 16384

abbrev pub trial_goal : ℕ → List Entry
trial_goal g = cond (nat_le g 16384) (positive g ∷ []) []

abbrev pub trial_opening : ℕ → Result (Unit {0}) Refusal
trial_opening n = cond (nat_le n 16384) (Ok tt) (Err (refused 12 0 4))
