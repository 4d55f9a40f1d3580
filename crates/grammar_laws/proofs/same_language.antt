-- The parser's table and the grammar derive and begin the same.
pub mod FormsFromProductions
pub mod FormsOutsideLists
pub mod DerivedForms
pub mod BegunForms
pub mod DerivedByTable
pub mod BegunByTable
pub mod SharedTests
pub mod TestsAddNothing
pub mod WholeUnits
