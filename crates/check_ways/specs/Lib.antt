pub mod Seen
pub mod apparatus
