mod Builds
pub mod Entries
mod Examples
pub mod Injectivity
pub mod Maps
pub mod MatchesAscend
pub mod Naturality
pub mod Over
pub mod PartNames
pub mod PatternInstance
pub mod Places
pub mod Shapes
pub mod Valuations
pub mod WithEntries
