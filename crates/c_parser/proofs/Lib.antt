pub mod TestSteps
pub mod FirstKinds
pub mod ReaderSteps
pub mod ReaderTurns
pub mod ReaderMeasures
pub mod Parsed
pub mod RankLaws
pub mod TerminalLaws
pub mod DepthPlaces
pub mod HidingLaws
mod PutValues
mod UnitValues
mod CallValues
