pub mod CircuitAudit
pub mod FormulaAudit
