pub mod Runs
pub mod Classes
pub mod Unended
pub mod Answers
pub mod Numbered
pub mod Values
pub mod Pending
