pub mod After
pub mod ContextLists
pub mod Deltas
pub mod inner
