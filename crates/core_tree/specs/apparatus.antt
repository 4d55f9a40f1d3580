-- What proofs need below: how the logic stores the nodes, and measures of them. Nothing here is to be believed.
pub mod CoreSizes
pub mod CoreFalls
pub mod CoreStatFalls
pub mod CoreExprCode
pub mod CoreStatCode
pub mod CoreUnitCode
