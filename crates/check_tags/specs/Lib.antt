pub mod Enumerated
pub mod Found
pub mod Members
