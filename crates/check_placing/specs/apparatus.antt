-- What proofs need below: how the logic stores what is placed. Nothing here is to be believed.
pub mod PlacedCode
