-- Verdicts of the two sides, whatever calls led to them, and why they never contradict each other.
use Rattle.std.proofs.Common.{◌≡◌, ℕ, true}
use Rattle.engine.specs.Verdicts.{Concluded}
use Rattle.engine.proofs.Soundness.{sound_closing}
use Rattle.audit.proofs.FormulaAuditLaw.{formula_audit}
use Rattle.models.specs.declared.tables.CircuitTables.{CircuitTables}
use Rattle.models.specs.declared.tables.FormulaTables.{FormulaTables}
use Rattle.models.specs.HeldTables.{formula_rows, circuit_rows, lawful_formula}
use Rattle.models.proofs.AuditLaws.{left_held}
use Rattle.gates.proofs.OpeningLaws.{opened}
use Rattle.sides.specs.contracts.falsity.FalsitySideSide.TheImpl.{ghosts as falsity_side}
use Rattle.sides.specs.contracts.truth.TruthSideSide.TheImpl.{ghosts as truth_side}
use Rattle.sides.specs.Agreement.{Gave, NeverBoth}
use Rattle.sides.specs.SideRules.{truth_rules, falsity_rules}

module _ (formula : FormulaTables) where
  pub gave_false : (most width : ℕ) → Gave (falsity_rules (formula_rows formula) most width) → Concluded falsity_side (record { formula = formula })
  gave_false most width g =
      sound_closing falsity_side (record { formula = formula }) most width g.list g.calls g.ticket g.case g.clauses g.verdict

  module _ (circuit : CircuitTables) where
    pub gave_true : (most width : ℕ) → Gave (truth_rules (formula_rows formula) (circuit_rows circuit) most width) → Concluded truth_side (record { formula = formula; circuit = circuit })
    gave_true most width g =
        sound_closing truth_side (record { formula = formula; circuit = circuit }) most width g.list g.calls g.ticket g.case g.clauses g.verdict

    pub never_both : NeverBoth (formula_rows formula) (circuit_rows circuit)
    never_both most width most' width' gave refuted =
        let t = formula_rows formula in
        let p = gave_true most width gave in
        let q = gave_false most' width' refuted in
        let lawful : lawful_formula t ≡ true = (opened t (circuit_rows circuit) p.accepted).formula in
        let some = left_held t ((formula_audit t.head t.variables t.clauses t.literals).0 lawful) in
        q.meaning some.0 some.1 _ (p.meaning some.0 some.1).model
