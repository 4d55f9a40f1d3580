pub mod ParameterLists
pub mod PointerLists
pub mod SuffixLists
pub mod InitializerLists
pub mod Refusals
