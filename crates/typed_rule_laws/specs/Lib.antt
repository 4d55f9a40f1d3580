pub mod TypedMeanings
pub mod TypedArguments
pub mod StandingMeanings
