pub mod Changed
pub mod Clashing
pub mod Glued
pub mod Names
pub mod Refused
pub mod Sides
