pub mod Plain
pub mod PlainAtoms
pub mod PlainLimits
pub mod PlainRuns
