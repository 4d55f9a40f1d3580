-- The scan that tells whether braces ahead are an enumeration's.
pub mod EnumeratorNames
pub mod BracesScanStep
pub mod BracesScanPastBrackets
pub mod BracesScanPastSpecifiers
pub mod BracesScanAtEnd
pub mod BracesScanOfGrammar
pub mod AwaitedBraces
