use Rattle.models.proofs.AuditLaws.{left_held}
use Rattle.models.proofs.tables.FormulaTables.is_lawful.Goals as goal

pub returns-clause-held : goal.returns-clause-held
returns-clause-held c = λ e. left_held _ (c.audit_formula.ensures.lawful.0 e)
