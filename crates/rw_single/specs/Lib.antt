pub mod Answer
pub mod Instantiated
pub mod Obstructions
pub mod OneVerdict
pub mod Step
pub mod Verdicts
