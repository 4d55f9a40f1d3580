pub mod apparatus
