-- What proofs need below: that one token decides each choice, that a recursion ends, and the table without its tests.
-- Nothing here is to be believed.
pub mod DecidedTable
pub mod LeftWeights
pub mod Untested
pub mod QuietEnds
