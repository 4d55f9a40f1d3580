pub mod Storages
pub mod Numbers
pub mod Wishes
