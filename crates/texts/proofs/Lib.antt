pub mod FewWords
pub mod FewLiterals
pub mod FormulaRead
pub mod CircuitRead
