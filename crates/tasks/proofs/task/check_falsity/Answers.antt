-- What the text is read as, and the case that is replayed on it, give the outcome of the task.
use Rattle.std.proofs.Common.{Result, sym, ap, ◌∙◌, subst}
use Rattle.std.proofs.lemmas.Result.{IfOk-weaker}
use Rattle.base.specs.declared.faults.Fault.{Fault}
use Rattle.texts.specs.declared.rows.FormulaRows.{FormulaRows}
use Rattle.models.specs.HeldTables.{formula_rows}
use Rattle.texts.specs.Spelled.{told_rows, ReadsFormula}
use Rattle.tasks.proofs.FalsityLaws.{FalsityRead, falsity_case, falsity_means}
use Rattle.tasks.proofs.NeverLaws.{never_both_texts}
use Rattle.tasks.proofs.task.check_falsity.Given as given
use Rattle.tasks.proofs.task.check_falsity.Goals as goal
use Rattle.tasks.proofs.task.check_falsity.Goals.{After-check_case}

pub returns-in_err-rows-clause-never : goal.returns-in_err-rows-clause-never
returns-in_err-rows-clause-never g c = never_both_texts c.args.formula.now

-- what was read and lent before the case
read : (g : given.Over) (c : After-check_case g) → FalsityRead c.args.formula.now c.in-Ok.rows c.new-side.result
read g c =
    record {
      formula_is = ap told_rows (sym c.in-Ok.is) ∙ c.in_ok-rows.ensures.is;
      formula_spelt = subst (λ (o : Result FormulaRows Fault). ReadsFormula c.args.formula.now (told_rows o)) c.in-Ok.is c.in_ok-rows.ensures.spelt;
      formula_lent = ap formula_rows c.new-side.ensures.formula ∙ c.tables.ensures;
    }

pub returns : goal.returns
returns g c =
    let formula = c.args.formula.now in
    let all = read g (goal.at.returns g c).After-check_case in
    let side = c.new-side.result in
    record {
      is = IfOk-weaker c.check_case.result _ _ (falsity_case formula c.in-Ok.rows side all g.F.Shelf c.args.shelf c.args.proof.now c.args.case) c.check_case.ensures.is;
      holds = IfOk-weaker c.check_case.result _ _ (falsity_means formula c.in-Ok.rows side all) c.check_case.ensures.holds;
      never = never_both_texts formula;
    }
