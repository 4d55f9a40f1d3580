pub mod GivenViews
pub mod GivenTrees
pub mod apparatus
