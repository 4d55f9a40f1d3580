pub mod Contexts
pub mod EnumerationTypes
pub mod KeywordCounts
pub mod NearestSteps
pub mod Storages
pub mod SpecifiedTypes
pub mod ListAnswers
pub mod Typings
