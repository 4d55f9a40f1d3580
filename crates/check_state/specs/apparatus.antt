-- What proofs need below: how the logic stores what a state holds. Nothing here is to be believed.
pub mod StateCode
