pub mod Apart
pub mod Complement
mod Examples
pub mod Initial
pub mod Least
pub mod Named
pub mod OneContext
pub mod Parts
pub mod Tests
