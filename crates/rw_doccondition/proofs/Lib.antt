pub mod BothGive
pub mod Counted
pub mod GrownKinds
pub mod Turns
