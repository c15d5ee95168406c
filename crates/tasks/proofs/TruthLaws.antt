-- The task for a formula with circuits: how it ends, by what the texts are read as, and what its True means.
use Rattle.std.proofs.Common.{◌≡◌, ℕ, List, Some, Ok, Result, ap, ◌∙◌, subst}
use Rattle.base.specs.Causes.{Refusal}
use Rattle.engine.specs.declared.shelf.Shelf.{Ghosts as ShelfGhosts}
use Rattle.engine.specs.Means.{rules}
use Rattle.spelling.specs.CircuitGrammar.{Aig}
use Rattle.models.specs.CircuitValues.{RightCircuits}
use Rattle.models.specs.HeldTables.{RowsOfFormula, RowsOfCircuit, formula_rows, circuit_rows}
use Rattle.models.proofs.AuditLaws.{aig_held}
use Rattle.replay.specs.Replay.{on_result}
use Rattle.sides.specs.contracts.truth.TruthSideSide.TheImpl.{ghosts as truth_side}
use Rattle.sides.specs.declared.truth.TruthSide.{TruthSide}
use Rattle.sides.specs.Meanings.{SaysTrue}
use Rattle.sides.specs.SideRules.{truth_rules}
use Rattle.texts.specs.declared.rows.CircuitRows.{CircuitRows}
use Rattle.texts.specs.declared.rows.FormulaRows.{FormulaRows}
use Rattle.texts.specs.Spelled.{rows_of, circuit_rows_of, told_rows, told_circuit_rows, ReadsFormula, ReadsCircuit}
use Rattle.texts.specs.TextRows.{formula_in, circuit_in}
use Rattle.tasks.specs.declared.outcome.Outcome.{Outcome}
use Rattle.tasks.specs.Cases.{CaseHolds}
use Rattle.tasks.specs.Outcomes.{Ending, formula_refused, circuit_refused, heads, case_ending, truth_ending, told_outcome}
use Rattle.tasks.specs.Verdicts.{Gives, TextsTrue}
use Rattle.tasks.proofs.CaseLaws.{case_proved}

module _ (proof : List ℕ) (case most width : ℕ) where
  -- the ending, by what the two texts are read as
  abbrev pub truth_by : Result RowsOfFormula Refusal → Result RowsOfCircuit Refusal → Ending
  truth_by o q =
      on_result o
      (λ t.
      on_result q (λ u. case_ending (heads t.head (Some u.head)) (truth_rules t u most width) case proof) (λ e. circuit_refused t.head e))
      (λ e. formula_refused e)

  module _ (formula circuit : List ℕ) where
    -- the outcome is the task's
    abbrev pub TruthEnds : Outcome → Type 0
    TruthEnds o = told_outcome o ≡ truth_ending formula circuit proof case most width

-- where the outcome says True, the texts are true
abbrev pub TruthMeans : List ℕ → List ℕ → Outcome → Type 0
TruthMeans formula circuit o = Gives (told_outcome o) 1 → TextsTrue formula circuit

-- Both texts were read, and their rows lent to a side.
pub record TruthRead (formula circuit : List ℕ) (rows : FormulaRows) (circuits : CircuitRows) (s : TruthSide) : Type 0 where
  pub formula_is : told_rows (Ok rows) ≡ formula_in formula
  pub formula_spelt : ReadsFormula formula (told_rows (Ok rows))
  pub formula_lent : formula_rows s.formula ≡ rows_of rows
  pub circuit_is : told_circuit_rows (Ok circuits) ≡ circuit_in circuit
  pub circuit_spelt : ReadsCircuit circuit (told_circuit_rows (Ok circuits))
  pub circuit_lent : circuit_rows s.circuit ≡ circuit_rows_of circuits

module _ (formula circuit : List ℕ) (rows : FormulaRows) (circuits : CircuitRows) (s : TruthSide) (h : TruthRead formula circuit rows circuits s) where
  -- the case on this side is the task's
  pub truth_case : {F : Type 0} (shelf : ShelfGhosts F) (f : F) (proof : List ℕ) (case : ℕ) (o : Outcome) → told_outcome o ≡ case_ending (heads rows.head (Some circuits.head)) (rules truth_side shelf s f) case proof → TruthEnds proof case (shelf.K f) (shelf.W f) formula circuit o
  truth_case shelf f proof case o e =
      let most = shelf.K f in
      let width = shelf.W f in
      let hs = heads rows.head (Some circuits.head) in
      e ∙ ap (λ (t : RowsOfFormula). case_ending hs (truth_rules t (circuit_rows s.circuit) most width) case proof) h.formula_lent
      ∙ ap (λ (u : RowsOfCircuit). case_ending hs (truth_rules (rows_of rows) u most width) case proof) h.circuit_lent
      ∙ ap (λ (q : Result RowsOfCircuit Refusal). truth_by proof case most width (Ok (rows_of rows)) q) h.circuit_is
      ∙ ap (λ (q : Result RowsOfFormula Refusal). truth_by proof case most width q (circuit_in circuit)) h.formula_is

  -- what the side's verdict says of the rows it says of the texts
  texts_true : SaysTrue (formula_rows s.formula) (circuit_rows s.circuit) → TextsTrue formula circuit
  texts_true means =
      let f = h.formula_spelt in
      let c = h.circuit_spelt in
      let says : SaysTrue (rows_of rows) (circuit_rows_of circuits) = subst (λ (u : RowsOfCircuit). SaysTrue (rows_of rows) u) h.circuit_lent (subst (λ (t : RowsOfFormula). SaysTrue t (circuit_rows s.circuit)) h.formula_lent means) in
      (f.0, c.0, f.1, c.1, subst (λ (a : Aig). RightCircuits f.0 a) (aig_held {t = circuit_rows_of circuits} {c = c.0} c.2) (says f.0 f.2))

  -- where the case on this side is proved, its True means that of the texts
  pub truth_means : (o : Outcome) → CaseHolds truth_side s o → TruthMeans formula circuit o
  truth_means o k e = texts_true (case_proved truth_side s o k e).meaning
