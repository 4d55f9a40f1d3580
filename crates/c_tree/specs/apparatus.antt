-- What proofs need below: how the logic stores the nodes, and measures of them. Nothing here is to be believed.
pub mod SyntaxSizes
pub mod SyntaxFalls
pub mod SyntaxLeafCode
pub mod SyntaxCode
