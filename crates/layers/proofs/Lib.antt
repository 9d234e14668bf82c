pub mod Covering
pub mod Joining
pub mod Marking
pub mod Samples
