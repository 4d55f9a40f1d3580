pub mod SoundScopes
pub mod Behind
