pub mod Electron
pub mod Unknowns
