pub mod Threads
pub mod inner
