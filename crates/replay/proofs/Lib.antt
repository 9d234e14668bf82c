pub mod Joining
pub mod Joints
pub mod Made
pub mod Reading
pub mod Starting
pub mod Turning
