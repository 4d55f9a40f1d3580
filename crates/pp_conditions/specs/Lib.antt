pub mod Answers
pub mod Lines
pub mod Listed
pub mod Parts
pub mod Shown
pub mod Progress
