pub mod Failing
pub mod FramesInOrder
pub mod MapEntries
pub mod PieceEntries
pub mod SoundForms
