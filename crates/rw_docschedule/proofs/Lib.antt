pub mod KnownBoxes
