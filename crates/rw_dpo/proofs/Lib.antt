mod BlankNames
pub mod ContextIs
pub mod ContextSame
mod Dangles
mod Glued
mod Least
pub mod Ordered
mod RemovedNames
mod Results
pub mod Sites
