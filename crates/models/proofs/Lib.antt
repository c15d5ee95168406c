pub mod HeldLaws
pub mod ValueLaws
pub mod GateLaws
pub mod DependsLaws
pub mod CircuitRows
pub mod AuditLaws
