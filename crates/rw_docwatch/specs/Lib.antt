pub mod Heads
pub mod Known
pub mod Members
pub mod Reads
pub mod WatchCodes
pub mod Watches
