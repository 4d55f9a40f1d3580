pub mod RankLaws
pub mod ConditionalLaws
pub mod OnceLaws
pub mod NumberLaws
pub mod NameLaws
pub mod PragmaLaws
pub mod HeaderLaws
pub mod SplitLaws
