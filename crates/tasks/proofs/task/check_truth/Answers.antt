-- What the texts are read as, and the case that is replayed on them, give the outcome of the task.
use Rattle.std.proofs.Common.{Result, sym, ap, ◌∙◌, subst}
use Rattle.std.proofs.lemmas.Result.{IfOk-weaker}
use Rattle.base.specs.declared.faults.Fault.{Fault}
use Rattle.texts.specs.declared.rows.CircuitRows.{CircuitRows}
use Rattle.texts.specs.declared.rows.FormulaRows.{FormulaRows}
use Rattle.models.specs.HeldTables.{formula_rows, circuit_rows}
use Rattle.texts.specs.Spelled.{told_rows, told_circuit_rows, ReadsFormula, ReadsCircuit}
use Rattle.tasks.proofs.NeverLaws.{never_both_texts}
use Rattle.tasks.proofs.TruthLaws.{TruthRead, truth_case, truth_means}
use Rattle.tasks.proofs.task.check_truth.Given as given
use Rattle.tasks.proofs.task.check_truth.Goals as goal
use Rattle.tasks.proofs.task.check_truth.Goals.{After-check_case}

pub returns-in_err-rows-clause-never : goal.returns-in_err-rows-clause-never
returns-in_err-rows-clause-never g c = never_both_texts c.args.formula.now

pub returns-in_err-circuits-clause-never : goal.returns-in_err-circuits-clause-never
returns-in_err-circuits-clause-never g c = never_both_texts c.args.formula.now

pub returns-in-Err-2-clause-never : goal.returns-in-Err-2-clause-never
returns-in-Err-2-clause-never g c = never_both_texts c.args.formula.now

-- what was read and lent before the case
read : (g : given.Over) (c : After-check_case g) → TruthRead c.args.formula.now c.args.circuit.now c.in-Ok.rows c.in-Ok-2.circuits c.new-side.result
read g c =
    record {
      formula_is = ap told_rows (sym c.in-Ok.is) ∙ c.in_ok-rows.ensures.is;
      formula_spelt = subst (λ (o : Result FormulaRows Fault). ReadsFormula c.args.formula.now (told_rows o)) c.in-Ok.is c.in_ok-rows.ensures.spelt;
      formula_lent = ap formula_rows c.new-side.ensures.formula ∙ c.tables.ensures;
      circuit_is = ap told_circuit_rows (sym c.in-Ok-2.is) ∙ c.in_ok-circuits.ensures.is;
      circuit_spelt = subst (λ (o : Result CircuitRows Fault). ReadsCircuit c.args.circuit.now (told_circuit_rows o)) c.in-Ok-2.is c.in_ok-circuits.ensures.spelt;
      circuit_lent = ap circuit_rows c.new-side.ensures.circuit ∙ c.tables-2.ensures;
    }

pub returns : goal.returns
returns g c =
    let formula = c.args.formula.now in
    let circuit = c.args.circuit.now in
    let all = read g (goal.at.returns g c).After-check_case in
    let side = c.new-side.result in
    record {
      is = IfOk-weaker c.check_case.result _ _ (truth_case formula circuit c.in-Ok.rows c.in-Ok-2.circuits side all g.F.Shelf c.args.shelf c.args.proof.now c.args.case) c.check_case.ensures.is;
      holds = IfOk-weaker c.check_case.result _ _ (truth_means formula circuit c.in-Ok.rows c.in-Ok-2.circuits side all) c.check_case.ensures.holds;
      never = never_both_texts formula;
    }
