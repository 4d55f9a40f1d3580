-- A list of tokens is a unit, has a first fault, or has a token in too many parts: one of the three, in one way.
pub mod AtMostOneAnswer
pub mod AtLeastOneAnswer
