pub mod ProgramNodes89
pub mod UnitTypeForms
pub mod UnitExprForms
pub mod UnitStatForms
pub mod UnitProgramForms
pub mod UnitTrees
pub mod apparatus
