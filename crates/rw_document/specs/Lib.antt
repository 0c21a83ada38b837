pub mod DocumentCodes
pub mod Documents
pub mod Formats
pub mod Models
pub mod Views
