pub mod SampleNames
pub mod EachOperator
pub mod EachStatement
pub mod WrongPrograms
pub mod WorkedUnits
