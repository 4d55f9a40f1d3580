pub mod NamesKept
pub mod PlainUnits
