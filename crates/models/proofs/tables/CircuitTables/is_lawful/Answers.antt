use Rattle.models.proofs.AuditLaws.{left_held_circuit}
use Rattle.models.proofs.tables.CircuitTables.is_lawful.Goals as goal

pub returns-clause-held : goal.returns-clause-held
returns-clause-held c = λ e. left_held_circuit _ (c.audit_circuit.ensures.lawful.0 e)
