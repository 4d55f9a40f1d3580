pub mod ParameterLaws
pub mod SameLists
pub mod CompositeLaws
