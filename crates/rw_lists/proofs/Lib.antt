pub mod SameLists
pub mod SameMatches
