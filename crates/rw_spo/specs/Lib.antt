pub mod PairContexts
pub mod inner
