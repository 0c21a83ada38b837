pub mod HomFaults
pub mod Homs
