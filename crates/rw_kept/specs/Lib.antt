pub mod Changed
pub mod Conditions
pub mod Index
pub mod KeptLists
pub mod Refreshed
pub mod inner
