pub mod Seen
pub mod SeenValues
pub mod Kept
pub mod View
pub mod StateSteps
pub mod apparatus
