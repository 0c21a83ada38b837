pub mod Entries
pub mod MapFaults
pub mod Matches
pub mod PatternFaults
pub mod PatternLists
