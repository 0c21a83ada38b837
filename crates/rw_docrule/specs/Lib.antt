pub mod Built
pub mod Heads
pub mod Known
pub mod Members
pub mod Reads
pub mod RuleCodes
pub mod Rules
