-- What proofs need below: how the logic stores steps. Nothing here is to be believed.
pub mod StepCode
