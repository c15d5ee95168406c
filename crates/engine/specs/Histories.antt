-- What the rules allow, and what was derived and settled in a run.
use Rattle.std.specs.Prelude.{◌≡◌, ℕ, ◌+◌, ◌<◌, ◌≤◌, true, false, ◌⊎◌, List, [], ◌∷◌, ◌++◌, length, Ok, Err, Result, ◌≢◌}
use Rattle.std.specs.List.{Contains}
use Rattle.base.specs.Causes.{Refusal}
use Rattle.clauses.specs.declared.entry.Entry.{Entry}
use Rattle.clauses.specs.Worlds.{complement_entry}
use Rattle.records.specs.declared.step.Step.{Step}
use Rattle.records.specs.declared.step.Step.TheVariants as step
use Rattle.records.specs.Records.{step_from}
use Rattle.engine.specs.Shelves.{clause_at, has_room}
use Rattle.engine.specs.Plain.{Rules, State, opened, step_result, take_result}
use Rattle.engine.specs.Runs.{Call, opens, steps, takes, closes, next}

-- x is a literal of the clause
pub data LiteralOf (x : Entry) : List Entry → Type 0 where
  here : {ys : List Entry} → LiteralOf x (x ∷ ys)
  there : {y : Entry} {ys : List Entry} → LiteralOf x ys → LiteralOf x (y ∷ ys)

-- some of a clause's literals, in their order
pub data SomeOf : List Entry → List Entry → Type 0 where
  none : SomeOf [] []
  leaves : {y : Entry} {xs ys : List Entry} → SomeOf xs ys → SomeOf xs (y ∷ ys)
  keeps : {y : Entry} {xs ys : List Entry} → SomeOf xs ys → SomeOf (y ∷ xs) (y ∷ ys)

-- no literal stands twice
abbrev pub Once : List Entry → Type 0
Once [] = Unit {0}
Once (x ∷ xs) = (LiteralOf x xs → ⊥) × Once xs

-- no literal stands with its complement
abbrev pub Consistent : List Entry → Type 0
Consistent c = (x : Entry) → LiteralOf x c → LiteralOf (complement_entry x) c → ⊥

-- The literals of a premise, each kept where it first stands, behind those that stand before.
pub data FirstOf : List Entry → List Entry → List Entry → Type 0 where
  none : {before : List Entry} → FirstOf before [] []
  keeps : {before xs c : List Entry} {x : Entry} → (LiteralOf x before → ⊥) → FirstOf (before ++ x ∷ []) xs c → FirstOf before (x ∷ xs) (x ∷ c)
  leaves : {before xs c : List Entry} {x : Entry} → LiteralOf x before → FirstOf before xs c → FirstOf before (x ∷ xs) c

-- A resolvent of two clauses at a position of the first, from 1: the first without the literal there, then the
-- second's literals, in their order, that are neither its complement nor in the first part.
pub record Resolvent (first second : List Entry) (position : ℕ) (c : List Entry) : Type 0 where
  pub before : List Entry
  pub pivot : Entry
  pub behind : List Entry
  pub more : List Entry
  pub first_is : first ≡ before ++ pivot ∷ behind
  pub position_is : position ≡ length before + 1
  pub complement : LiteralOf (complement_entry pivot) second
  pub is : c ≡ (before ++ behind) ++ more
  pub order : SomeOf more second
  pub once : Once more
  pub new : (x : Entry) → LiteralOf x more → (x ≢ complement_entry pivot) × (LiteralOf x (before ++ behind) → ⊥)
  pub all : (x : Entry) → LiteralOf x second → (x ≡ complement_entry pivot) ⊎ (LiteralOf x c)

-- there is a clause with this number
abbrev pub Filed : List (List Entry) → ℕ → Type 0
Filed cs n = (1 ≤ n) × (n ≤ length cs)

-- What the rules allow: a step, with the clause that it gives.
pub data Allows (r : Rules) (cs : List (List Entry)) : Step → List Entry → Type 0 where
  premise : {c : List Entry} (p : _) (claimed : List Entry) → r.admits p ≡ true → r.claim p ≡ Ok claimed → FirstOf [] claimed c → Consistent c → Allows r cs (step.Premise p) c
  resolve : {c : List Entry} (first second position : ℕ) → Filed cs first → Filed cs second → Resolvent (clause_at cs first) (clause_at cs second) position c → Consistent c → Allows r cs (step.Resolve first second position) c

-- the shelf is full for a clause, or it has more than 1,024 literals
abbrev pub TooMuch : Rules → List (List Entry) → List Entry → Type 0
TooMuch r cs c = (has_room r.most r.width cs c ≡ false) ⊎ (1024 < length c)

abbrev pub Accepted : {X : Type 0} → Result X Refusal → Type 0
Accepted {X} o = (x : X) × (o ≡ Ok x)

abbrev pub Refused : {X : Type 0} → Result X Refusal → Type 0
Refused {X} o = (e : Refusal) × (o ≡ Err e)

-- an existing goal and a filed clause all of whose literals the goal has
abbrev pub Settles : Rules → State → ℕ → ℕ → Type 0
Settles r s g k = (1 ≤ g) × (g ≤ r.goals) × Filed s.list k × ((x : Entry) → LiteralOf x (clause_at s.list k) → LiteralOf x (r.goal g))

-- the steps and settlings that were accepted since the last accepted opening
abbrev pub noted_if : {X : Type 0} → Result X Refusal → List Step → List Step → List Step
noted_if (Ok x) then else = then
noted_if (Err e) then else = else

abbrev pub noted_take : Result Step Refusal → Rules → State → List ℕ → List Step → List Step
noted_take (Ok p) r s bytes done = noted_if (take_result r s bytes) (done ++ p ∷ []) done
noted_take (Err e) r s bytes done = done

abbrev pub noted : Rules → State → List Step → Call → List Step
noted r s done (opens n) = noted_if (opened r s n) [] done
noted r s done (steps p) = noted_if (step_result r s p) (done ++ p ∷ []) done
noted r s done (takes bytes) = noted_take (step_from bytes) r s bytes done
noted r s done (closes n) = done

abbrev pub history : Rules → State → List Step → List Call → List Step
history r s done [] = done
history r s done (c ∷ cs) = history r (next r s c) (noted r s done c) cs

-- the clauses that a list of steps derives, in order
pub data Derives (r : Rules) : List Step → List (List Entry) → Type 0 where
  nothing : Derives r [] []
  more : {ss : List Step} {cs : List (List Entry)} {c : List Entry} (p : Step) → Derives r ss cs → Allows r cs p c → Derives r (ss ++ p ∷ []) (cs ++ c ∷ [])
  settling : {ss : List Step} {cs : List (List Entry)} (g k : ℕ) → Derives r ss cs → Derives r (ss ++ step.Settle g k ∷ []) cs

-- goal g was settled, in this history, by a clause that these derived ones have
abbrev pub SettledBy : Rules → List Step → List (List Entry) → ℕ → Type 0
SettledBy r done cs g =
    (k : ℕ) × Contains done (step.Settle g k) × Filed cs k × ((x : Entry) → LiteralOf x (clause_at cs k) → LiteralOf x (r.goal g))
