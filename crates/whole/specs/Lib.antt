pub mod Finds
pub mod Parts
pub mod Slots
pub mod Takes
pub mod Walks
pub mod Whole
