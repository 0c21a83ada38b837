pub mod Complement
pub mod Context
pub mod Named
pub mod OneContext
pub mod Redex
