pub mod Named
pub mod OnePair
pub mod OneSinglePushout
pub mod Removal
pub mod SinglePushout
pub mod SubInstance
