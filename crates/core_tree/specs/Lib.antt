pub mod CoreNodes
pub mod CoreForms
pub mod CoreStatForms
pub mod CoreUnitForms
pub mod CoreTrees
pub mod apparatus
