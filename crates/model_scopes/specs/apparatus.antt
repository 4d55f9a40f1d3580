-- What proofs need below: that recursions end, and how the logic stores a type. Nothing here is to be believed.
pub mod DeclarationCode
pub mod ScopesCode
