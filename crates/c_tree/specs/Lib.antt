pub mod SyntaxViews
pub mod SyntaxTrees
pub mod SyntaxDepth
pub mod SyntaxPlaces
pub mod SyntaxSorts
pub mod apparatus
