pub mod Choice
pub mod Gluing
pub mod Pairing
pub mod Paths
