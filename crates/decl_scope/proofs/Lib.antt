pub mod BoundLaws
pub mod TableLaws
pub mod PassedLists
pub mod SoundLaws
pub mod ScopeLaws
pub mod UseLaws
