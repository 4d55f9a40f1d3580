pub mod PlacedLaws
pub mod ItemLaws
