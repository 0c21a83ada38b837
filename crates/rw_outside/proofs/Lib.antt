mod Came
mod Rests
pub mod Sent
mod Written
