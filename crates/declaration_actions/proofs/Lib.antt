pub mod DeclaratorLists
pub mod EnumeratorLists
pub mod InitDeclaratorLists
pub mod MemberLists
pub mod SpecLists
pub mod Refusals
