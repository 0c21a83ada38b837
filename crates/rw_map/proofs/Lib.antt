pub mod Atoms
pub mod Composites
pub mod Ends
pub mod Entries
pub mod HomChecks
pub mod Objects
