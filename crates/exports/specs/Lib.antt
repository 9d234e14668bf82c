pub mod Keeps
pub mod Layout
pub mod Outcome
pub mod Put
