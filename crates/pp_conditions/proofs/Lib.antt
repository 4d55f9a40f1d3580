pub mod LineLaws
pub mod PartLaws
pub mod ReaderLaws
pub mod RefusalLaws
pub mod OutcomeLaws
