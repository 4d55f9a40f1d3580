pub mod SyntaxShapes
pub mod SyntaxSorting
pub mod SyntaxNodeValue
pub mod SyntaxDerived
