pub mod ExternalLists
pub mod Refusals
