pub mod ByteLaws
pub mod RecordLaws
pub mod SlipLaws
