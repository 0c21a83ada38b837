pub mod Carried
pub mod Examples
pub mod Filled
pub mod Read
pub mod Room
pub mod Walks
pub mod Written
