pub mod Letters
pub mod Stride
