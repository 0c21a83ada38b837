pub mod ClassTables
pub mod Fibers
pub mod PairLists
pub mod RowCospans
pub mod Sides
pub mod Spans
