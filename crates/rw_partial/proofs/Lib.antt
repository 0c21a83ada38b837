mod Closure
mod Examples
pub mod Largest
pub mod OnePair
pub mod OneSinglePushout
pub mod Pairs
pub mod Partial
pub mod SameFrames
mod SomePair
pub mod SubInstances
pub mod Total
