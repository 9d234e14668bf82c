pub mod Chaining
pub mod Damaged
pub mod Filing
pub mod Gathering
pub mod Samples
