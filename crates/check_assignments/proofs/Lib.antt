pub mod GivenLaws
pub mod CallLaws
