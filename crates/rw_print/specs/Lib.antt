pub mod Atoms
pub mod Limits
pub mod Lines
pub mod RunLines
