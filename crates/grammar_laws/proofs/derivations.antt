-- What holds of each derivation: which brackets, frames and names it leaves, what it begins with and what may follow.
pub mod ClearBrackets
pub mod FollowsOfForms
pub mod BalancedForms
pub mod BalancedGrammar
pub mod KeptScopes
pub mod KeptByGrammar
pub mod IndependentOfFrames
pub mod AttributesInAnyScopes
pub mod AttributesOfGrammar
pub mod FirstTokensOfGrammar
pub mod NoneAwaitsBraces
