pub mod Clashes
pub mod Links
pub mod Merging
