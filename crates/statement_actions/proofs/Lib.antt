pub mod BlockItemLists
pub mod IterationLaws
pub mod Refusals
