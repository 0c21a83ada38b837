pub mod Links
pub mod Threads
pub mod Walks
