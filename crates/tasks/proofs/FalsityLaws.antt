-- The task for a formula and a refutation: how it ends, by what the text is read as, and what its False means.
use Rattle.std.proofs.Common.{◌≡◌, ℕ, List, None, Ok, Result, ap, ◌∙◌, subst}
use Rattle.base.specs.Causes.{Refusal}
use Rattle.engine.specs.declared.shelf.Shelf.{Ghosts as ShelfGhosts}
use Rattle.engine.specs.Means.{rules}
use Rattle.models.specs.HeldTables.{RowsOfFormula, formula_rows}
use Rattle.replay.specs.Replay.{on_result}
use Rattle.sides.specs.contracts.falsity.FalsitySideSide.TheImpl.{ghosts as falsity_side}
use Rattle.sides.specs.declared.falsity.FalsitySide.{FalsitySide}
use Rattle.sides.specs.Meanings.{SaysFalse}
use Rattle.sides.specs.SideRules.{falsity_rules}
use Rattle.texts.specs.declared.rows.FormulaRows.{FormulaRows}
use Rattle.texts.specs.Spelled.{rows_of, told_rows, ReadsFormula}
use Rattle.texts.specs.TextRows.{formula_in}
use Rattle.tasks.specs.declared.outcome.Outcome.{Outcome}
use Rattle.tasks.specs.Cases.{CaseHolds}
use Rattle.tasks.specs.Outcomes.{Ending, formula_refused, heads, case_ending, falsity_ending, told_outcome}
use Rattle.tasks.specs.Verdicts.{Gives, TextFalse}
use Rattle.tasks.proofs.CaseLaws.{case_proved}

module _ (proof : List ℕ) (case most width : ℕ) where
  -- the ending, by what the text is read as
  abbrev pub falsity_by : Result RowsOfFormula Refusal → Ending
  falsity_by o = on_result o (λ t. case_ending (heads t.head None) (falsity_rules t most width) case proof) (λ e. formula_refused e)

  -- the outcome is the task's
  abbrev pub FalsityEnds : List ℕ → Outcome → Type 0
  FalsityEnds formula o = told_outcome o ≡ falsity_ending formula proof case most width

-- where the outcome says False, the text is false
abbrev pub FalsityMeans : List ℕ → Outcome → Type 0
FalsityMeans formula o = Gives (told_outcome o) 2 → TextFalse formula

-- The text was read, and its rows lent to a side.
pub record FalsityRead (formula : List ℕ) (rows : FormulaRows) (s : FalsitySide) : Type 0 where
  pub formula_is : told_rows (Ok rows) ≡ formula_in formula
  pub formula_spelt : ReadsFormula formula (told_rows (Ok rows))
  pub formula_lent : formula_rows s.formula ≡ rows_of rows

module _ (formula : List ℕ) (rows : FormulaRows) (s : FalsitySide) (h : FalsityRead formula rows s) where
  -- the case on this side is the task's
  pub falsity_case : {F : Type 0} (shelf : ShelfGhosts F) (f : F) (proof : List ℕ) (case : ℕ) (o : Outcome) → told_outcome o ≡ case_ending (heads rows.head None) (rules falsity_side shelf s f) case proof → FalsityEnds proof case (shelf.K f) (shelf.W f) formula o
  falsity_case shelf f proof case o e =
      e ∙ ap (λ (t : RowsOfFormula). case_ending (heads rows.head None) (falsity_rules t (shelf.K f) (shelf.W f)) case proof) h.formula_lent
      ∙ ap (falsity_by proof case (shelf.K f) (shelf.W f)) h.formula_is

  -- what the side's verdict says of the rows it says of the text
  text_false : SaysFalse (formula_rows s.formula) → TextFalse formula
  text_false means =
      let f = h.formula_spelt in
      let says : SaysFalse (rows_of rows) = subst SaysFalse h.formula_lent means in
      (f.0, f.1, says f.0 f.2)

  -- where the case on this side is proved, its False means that of the text
  pub falsity_means : (o : Outcome) → CaseHolds falsity_side s o → FalsityMeans formula o
  falsity_means o k e = text_false (case_proved falsity_side s o k e).meaning
