pub mod Applied
pub mod Early
pub mod NewParts
pub mod OneVerdict
pub mod SameClashes
pub mod SamePartial
pub mod Single
pub mod Verdicts
