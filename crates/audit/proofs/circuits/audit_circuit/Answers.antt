use Rattle.std.proofs.Common.{rules}
use Rattle.audit.proofs.CircuitAuditLaw.{circuit_audited}
use Rattle.audit.proofs.circuits.audit_circuit.Goals as goal

pub returns-then-not-lawful_counts : goal.returns-then-not-lawful_counts
returns-then-not-lawful_counts c = record { is = search rules; lawful = circuit_audited _ _ _ (search rules) }

pub returns-then-lawful_gates : goal.returns-then-lawful_gates
returns-then-lawful_gates c = record { is = search rules; lawful = circuit_audited _ _ _ (search rules) }

pub returns-else-lawful_gates : goal.returns-else-lawful_gates
returns-else-lawful_gates c = record { is = search rules; lawful = circuit_audited _ _ _ (search rules) }
