pub mod Entries
pub mod Evaluable
pub mod Examples
pub mod Remainders
pub mod TermKinds
pub mod TermValues
