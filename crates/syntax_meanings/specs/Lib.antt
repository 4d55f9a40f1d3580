pub mod FirstSymbols
pub mod Meanings
pub mod RightSides
