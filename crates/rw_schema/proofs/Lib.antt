pub mod Atoms
pub mod Firsts
pub mod Lists
pub mod Orders
pub mod Paths
pub mod SameAtoms
pub mod Schemas
