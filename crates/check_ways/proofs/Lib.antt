pub mod InwardSteps
pub mod InwardLaws
pub mod RankLaws
pub mod PartLaws
pub mod CountLaws
