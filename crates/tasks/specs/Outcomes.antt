-- The whole task on bytes: texts and a proof in, a slip out.
use Rattle.std.specs.Prelude.{ℕ, List, Some, None, Option}
use Rattle.base.specs.Causes.{Refusal, told}
use Rattle.circuit.specs.declared.tables.CircuitHead.{CircuitHead}
use Rattle.formula.specs.declared.tables.Head.{Head}
use Rattle.records.specs.Slips.{slip_bytes}
use Rattle.engine.specs.Plain.{Rules}
use Rattle.replay.specs.Replay.{Told, on_result, replayed}
use Rattle.replay.specs.Reports.{told_report}
use Rattle.sides.specs.SideRules.{truth_rules, falsity_rules}
use Rattle.texts.specs.TextRows.{formula_in, circuit_in}
use Rattle.tasks.specs.declared.outcome.Heads.{Heads}
use Rattle.tasks.specs.declared.outcome.Outcome.{Outcome}
use Rattle.tasks.specs.declared.outcome.Outcome.TheVariants as outcome

-- How far a task came: a text is refused, or the opening, or the case was closed with a slip of sixteen bytes. The heads are
-- those of the texts that were accepted.
pub data Ending : Type 0 where
  formula_refused : Refusal → Ending
  circuit_refused : Head → Refusal → Ending
  opening_refused : Heads → Refusal → Ending
  closed : Heads → Told → List ℕ → Ending

abbrev pub heads : Head → Option CircuitHead → Heads
heads f c = record { formula = f; circuit = c }

-- a proof that is replayed, behind texts with these heads
abbrev pub case_ending : Heads → Rules → ℕ → List ℕ → Ending
case_ending hs r case proof = on_result (replayed r case proof) (λ p. closed hs p (slip_bytes p.slip)) (λ e. opening_refused hs e)

-- the task for a formula, circuits and a proof, under a case's number, on a shelf with these two numbers
abbrev pub truth_ending : List ℕ → List ℕ → List ℕ → ℕ → ℕ → ℕ → Ending
truth_ending formula circuit proof case most width =
    on_result (formula_in formula)
    (λ t.
    on_result (circuit_in circuit) (λ u. case_ending (heads t.head (Some u.head)) (truth_rules t u most width) case proof)
    (λ e. circuit_refused t.head e))
    (λ e. formula_refused e)

-- the task for a formula and a refutation
abbrev pub falsity_ending : List ℕ → List ℕ → ℕ → ℕ → ℕ → Ending
falsity_ending formula proof case most width =
    on_result (formula_in formula) (λ t. case_ending (heads t.head None) (falsity_rules t most width) case proof) (λ e. formula_refused e)

-- an outcome of the code, as it is told
abbrev pub told_outcome : Outcome → Ending
told_outcome (outcome.FormulaRefused f) = formula_refused (told f)
told_outcome (outcome.CircuitRefused h f) = circuit_refused h (told f)
told_outcome (outcome.OpeningRefused hs f) = opening_refused hs (told f)
told_outcome (outcome.Closed hs p slip) = closed hs (told_report p) slip
