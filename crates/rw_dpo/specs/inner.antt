pub mod Blank
pub mod Dangling
pub mod Site
