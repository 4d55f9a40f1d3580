pub mod Seen
pub mod Designated
pub mod Rules
pub mod Constness
