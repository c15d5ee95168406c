-- The one world of the trial side, in which every variable is true, and what its verdict means.
use Rattle.std.specs.Prelude.{◌≡◌, ℕ, ◌+◌, ◌%◌, ◌≤◌, Bool, true, false, not, ◌||◌, List, [], ◌∷◌, length, Ok, Err, Result, ◌==◌, refl}
use Rattle.std.proofs.Common.{ap, arith, subst, ◌∙◌}
use Rattle.std.proofs.lemmas.Bool.{cond_both}
use Rattle.std.proofs.lemmas.Bool.Decides.{nat_tests}
use Rattle.clauses.specs.declared.entry.Entry.{Entry}
use Rattle.clauses.specs.Worlds.{World, complement_entry, true_in}
use Rattle.clauses.proofs.CodeLaws.{complement_parity}
use Rattle.records.specs.declared.step.Premise.{Premise}
use Rattle.records.specs.declared.step.Premise.TheVariants as premise
use Rattle.trial.specs.Trial.{positive, negative, trial_class, trial_claim, trial_goals, trial_goal}

abbrev pub is_true : Entry → Bool
is_true e = not (e.code % 2 == 1)

pub is_true_one : (e : Entry) → is_true (complement_entry e) ≡ not (is_true e)
is_true_one e = ap not (complement_parity e.code)

abbrev pub all_true : World
all_true = record { holds = is_true; one = is_true_one }

-- the verdict: each goal is true in the one world
abbrev pub EachGoal : ℕ → Type 0
EachGoal n = (g : ℕ) → 1 ≤ g → g ≤ trial_goals n → true_in all_true (trial_goal g) ≡ true

pub goals_few : (n : ℕ) → trial_goals n ≤ 16384
goals_few n = omega arith

pub goal_brief : (g : ℕ) → length (trial_goal g) ≤ 1024
goal_brief g = grind (arith, nat_tests)

-- what is so of each clause of a claim, where there is one
abbrev Each : (List Entry → Type 0) → Result (List Entry) ℕ → Type 0
Each P (Ok c) = P c
Each P (Err k) = Unit {0}

each_class : (P : List Entry → Type 0) (class k : ℕ) → P (positive k ∷ []) → P (positive k ∷ positive k ∷ []) → P (negative k ∷ positive (k + 1) ∷ []) → P (negative k ∷ positive (k + 1) ∷ positive (k + 65536) ∷ []) → P (positive k ∷ negative k ∷ []) → Each P (trial_class class k)
each_class P class k p q r s t =
    cond_both (class == 0) _ _ (Each P) (λ e. p)
    (λ e. cond_both (class == 1) _ _ (Each P) (λ e. q)
    (λ e. cond_both (class == 2) _ _ (Each P) (λ e. r)
    (λ e. cond_both (class == 3) _ _ (Each P) (λ e. s)
    (λ e. cond_both (class == 4) _ _ (Each P) (λ e. t) (λ e. tt)))))

each_claim : (P : List Entry → Type 0) → ((class k : ℕ) → Each P (trial_class class k)) → (p : Premise) → Each P (trial_claim p)
each_claim P f (premise.Truth class k part) = f class k
each_claim P f (premise.Falsity clause values) = tt

of_each : (P : List Entry → Type 0) (c : List Entry) (r : Result (List Entry) ℕ) → r ≡ Ok c → Each P r → P c
of_each P c r e h = subst (Each P) e h

abbrev Short : List Entry → Type 0
Short c = length c ≤ 1024

pub claim_short : (p : Premise) (c : List Entry) → trial_claim p ≡ Ok c → length c ≤ 1024
claim_short p c e =
    of_each Short c (trial_claim p) e
    (each_claim Short (λ class k. each_class Short class k (omega arith) (omega arith) (omega arith) (omega arith) (omega arith)) p)

positive_true : (k : ℕ) → is_true (positive k) ≡ true
positive_true k = grind (arith, nat_tests)

abbrev TrueClause : List Entry → Type 0
TrueClause c = true_in all_true c ≡ true

first_true : (k : ℕ) (es : List Entry) → TrueClause (positive k ∷ es)
first_true k es = ap (λ b. b || true_in all_true es) (positive_true k)

second_true : (e : Entry) (k : ℕ) (es : List Entry) → TrueClause (e ∷ positive k ∷ es)
second_true e k es = ap (λ b. is_true e || b) (first_true k es) ∙ or_true (is_true e)
  where
    or_true : (b : Bool) → (b || true) ≡ true
    or_true true = refl
    or_true false = refl

pub claim_true : (p : Premise) (c : List Entry) → trial_claim p ≡ Ok c → true_in all_true c ≡ true
claim_true p c e =
    of_each TrueClause c (trial_claim p) e
    (each_claim TrueClause
    (λ class k. each_class TrueClause class k (first_true k []) (first_true k (positive k ∷ [])) (second_true (negative k) (k + 1) []) (second_true (negative k) (k + 1) (positive (k + 65536) ∷ []))
    (first_true k (negative k ∷ []))) p)
