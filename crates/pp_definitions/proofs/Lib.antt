pub mod NamesLaws
pub mod HeadingLaws
pub mod PieceLaws
pub mod TableLaws
