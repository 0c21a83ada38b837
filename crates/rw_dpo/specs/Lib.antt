pub mod Complements
pub mod Contexts
pub mod inner
