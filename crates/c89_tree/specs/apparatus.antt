-- What proofs need below: how the logic stores the nodes, and measures of them. Nothing here is to be believed.
pub mod UnitSizes
pub mod UnitTypeFalls
pub mod UnitExprFalls
pub mod UnitStatFalls
pub mod UnitTypeCode
pub mod UnitExprCode
pub mod UnitStatCode
pub mod UnitProgramCode
