pub mod DefersAlike
pub mod Related
pub mod OutsideRelated
pub mod SourceRelated
pub mod StatementsRelated
pub mod Turns
