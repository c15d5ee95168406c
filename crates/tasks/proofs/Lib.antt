pub mod SlipLaws
pub mod CaseLaws
pub mod TruthLaws
pub mod FalsityLaws
pub mod NeverLaws
