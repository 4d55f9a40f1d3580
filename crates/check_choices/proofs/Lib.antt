pub mod CastLaws
