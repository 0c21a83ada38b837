pub mod Answer
pub mod OneVerdict
pub mod Over
pub mod inner
