pub mod SideLaws
pub mod IndentLaws
pub mod Smaller
