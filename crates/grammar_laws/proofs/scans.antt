-- The parser's scans of the tokens ahead pass over what is derived.
pub mod ScansReadNames
pub mod PastBrackets
pub mod PastAttributes
pub mod BehindAttributes
pub mod PastSpecifiers
pub mod PastDeclarators
pub mod NameOfDeclarator
