pub mod Covers
pub mod Joins
pub mod Marks
