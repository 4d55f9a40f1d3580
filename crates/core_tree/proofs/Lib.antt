pub mod CoreParts
pub mod CoreLists
