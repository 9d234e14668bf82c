pub mod Digits
pub mod Inside
pub mod Spans
pub mod Spelling
pub mod Years
pub mod Runs
pub mod Onward
