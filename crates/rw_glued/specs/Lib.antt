pub mod Clash
pub mod OneGluing
pub mod Result
