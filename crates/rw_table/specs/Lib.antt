pub mod TableFaults
pub mod Unfaulted
pub mod inner
