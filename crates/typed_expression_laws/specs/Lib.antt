pub mod CoveredTrees
