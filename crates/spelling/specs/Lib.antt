pub mod Dqbf
pub mod FormulaGrammar
pub mod FormulaLaw
pub mod CircuitGrammar
pub mod CircuitLaw
