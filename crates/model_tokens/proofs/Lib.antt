pub mod PpNumberLaws
pub mod LiteralLaws
