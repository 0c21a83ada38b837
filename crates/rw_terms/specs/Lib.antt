pub mod OpEntries
pub mod OpTables
pub mod OpValues
pub mod TermKinds
pub mod Terms
