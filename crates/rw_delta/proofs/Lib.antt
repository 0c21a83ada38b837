pub mod Differing
pub mod Gathered
pub mod Live
pub mod Looked
