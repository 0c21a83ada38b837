pub mod Along
pub mod Checked
mod Examples
pub mod Listed
pub mod Numbered
pub mod Places
pub mod Sound
pub mod TableInstance
pub mod Unfaulted
