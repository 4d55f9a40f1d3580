-- What proofs need below: how the logic stores the nodes, and measures of them. Nothing here is to be believed.
pub mod GivenSizes
pub mod GivenFalls
pub mod GivenCode
