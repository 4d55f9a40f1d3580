pub mod BraceElision
