pub mod Both
pub mod Conditions
pub mod Forms
pub mod Images
pub mod Members
pub mod Reads
pub mod Variables
