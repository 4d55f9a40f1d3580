pub mod ArgumentLaws
pub mod PastingLaws
pub mod MachineLaws
pub mod GoOnLaws
