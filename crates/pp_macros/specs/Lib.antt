pub mod Filling
pub mod Machine
pub mod Progress
