pub mod Fresh
pub mod News
