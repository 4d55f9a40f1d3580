pub mod ShiftedWays
pub mod FirstTakers
pub mod Elided
