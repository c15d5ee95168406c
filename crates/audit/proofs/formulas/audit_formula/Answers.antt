use Rattle.std.proofs.Common.{rules}
use Rattle.audit.proofs.FormulaAuditLaw.{formula_audited}
use Rattle.audit.proofs.formulas.audit_formula.Goals as goal

pub returns-then-lawful_variables : goal.returns-then-lawful_variables
returns-then-lawful_variables c = record { is = search rules; lawful = formula_audited _ _ _ _ (search rules) }

pub returns-else-lawful_variables : goal.returns-else-lawful_variables
returns-else-lawful_variables c = record { is = search rules; lawful = formula_audited _ _ _ _ (search rules) }

pub returns-then-not-lawful_head-clause-lawful : goal.returns-then-not-lawful_head-clause-lawful
returns-then-not-lawful_head-clause-lawful c = formula_audited _ _ _ _ (search rules)
