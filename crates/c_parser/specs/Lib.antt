pub mod View
pub mod Counting
pub mod TreeValues
pub mod Reading
pub mod Parsing
pub mod Ranks
pub mod Answers
pub mod Hiding
