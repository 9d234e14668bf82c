pub mod Chains
pub mod Damages
pub mod Records
pub mod Short
pub mod Walks
