-- The kinds of tokens, and sets of them.
pub mod KindSets
pub mod TokenKinds
pub mod BracketKinds
pub mod ConvertedKinds
