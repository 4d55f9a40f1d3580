pub mod Defined
pub mod ConditionTokens
pub mod ConditionGrammar
pub mod ConditionValues
pub mod ConditionReading
pub mod Judgement
pub mod Conditions
pub mod apparatus
