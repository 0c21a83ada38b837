pub mod Clash
pub mod Clashes
pub mod Counts
pub mod DoublePushout
mod Examples
pub mod OneGluing
pub mod OnlyClash
pub mod Result
