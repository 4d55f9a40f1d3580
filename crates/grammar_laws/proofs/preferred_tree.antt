-- The parser's derivation is the preferred one of the grammar, with the same parts.
pub mod ChoiceOrder
pub mod SameChoicesSameParts
pub mod FormsWithoutTests
pub mod ChoicesInGrammar
pub mod ComparedDerivations
pub mod FailedTests
pub mod FailedBraceTests
pub mod FormsWithTests
pub mod PreferredAttributes
pub mod ParsedIsPreferred
pub mod PreferredUnits
