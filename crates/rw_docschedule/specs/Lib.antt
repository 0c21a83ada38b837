pub mod Boxes
pub mod Reads
pub mod Schedules
