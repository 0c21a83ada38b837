pub mod Clashes
pub mod ClassLists
pub mod Classes
pub mod FirstClash
pub mod Glued
pub mod Merging
pub mod Places
pub mod inner
