pub mod Removal
pub mod Removed
pub mod Staying
