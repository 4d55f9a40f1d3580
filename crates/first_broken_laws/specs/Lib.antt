pub mod FirstNamed
pub mod OrderedTrees
