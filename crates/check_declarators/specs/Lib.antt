pub mod DeclaredViews
pub mod Steps
