pub mod Values
pub mod Later
pub mod Soundness
pub mod View
pub mod Answers
