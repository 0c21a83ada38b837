pub mod Changes
pub mod ChangedColumns
pub mod Columned
pub mod Kept
pub mod inner
