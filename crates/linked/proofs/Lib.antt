pub mod ChainLaws
pub mod MoveLaws
pub mod KeepLaws
pub mod ReleaseLaws
pub mod ReadLaws
pub mod IndexLaws
pub mod ShelfLaws
