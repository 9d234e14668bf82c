pub mod Filling
pub mod Finding
pub mod Putting
pub mod Slotting
pub mod Walking
pub mod Wholes
