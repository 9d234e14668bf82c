pub mod Copying
pub mod Filling
pub mod Reading
pub mod Slots
