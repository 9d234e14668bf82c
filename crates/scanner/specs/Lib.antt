pub mod Within
pub mod Position
pub mod Years
