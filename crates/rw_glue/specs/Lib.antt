pub mod Given
pub mod Glues
pub mod Values
pub mod inner
