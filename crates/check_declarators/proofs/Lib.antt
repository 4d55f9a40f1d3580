mod DeclaredLaws
pub mod StepLaws
