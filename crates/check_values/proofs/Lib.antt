pub mod TypeTests
pub mod ConversionLaws
pub mod ValueLaws
