pub mod BadCells
pub mod Places
pub mod Samples
pub mod Stepping
pub mod Querying
pub mod Feeding
