pub mod OneLimit
pub mod Pairs
pub mod Pullbacks
pub mod Pushouts
pub mod Spans
pub mod inner
