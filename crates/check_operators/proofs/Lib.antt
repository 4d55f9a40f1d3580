pub mod SizeLaws
pub mod ScalarLaws
pub mod StepLaws
pub mod OperationLaws
pub mod SumLaws
pub mod ComparisonLaws
pub mod ElementLaws
pub mod CountLaws
