pub mod Coding
pub mod Cutting
pub mod Spacing
pub mod Spellings
pub mod Trimming
