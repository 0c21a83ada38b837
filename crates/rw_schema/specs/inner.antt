pub mod SchemaFaults
pub mod Topological
