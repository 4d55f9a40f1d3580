pub mod Answers
pub mod Broken
pub mod Meanings
pub mod Turns
