pub mod Links
pub mod Threads
