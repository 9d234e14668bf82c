pub mod Calls
pub mod Law
pub mod Queries
pub mod Runs
pub mod Texts
