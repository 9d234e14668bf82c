pub mod Refusals
pub mod Standing
pub mod Start
pub mod Steps
pub mod Utf8
