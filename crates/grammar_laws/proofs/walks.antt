-- The walk of a parser through a table whose choices are decided: it is one, it ends, it reads what is derived, and it
-- makes the marks of the parts.
pub mod DecidedDerivations
pub mod ParserDecided
pub mod OneWalk
pub mod TableWeights
pub mod TotalWalk
pub mod MarkedWalks
pub mod MarksBehindParts
