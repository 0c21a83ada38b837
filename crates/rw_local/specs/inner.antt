pub mod ChangeTo
pub mod Glued
pub mod Local
