pub mod Frames
pub mod Instances
pub mod Maps
pub mod PieceEntries
pub mod Spans
pub mod Views
