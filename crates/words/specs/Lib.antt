pub mod Copy
pub mod Field
pub mod Fill
pub mod Outcome
pub mod Put
pub mod Steps
