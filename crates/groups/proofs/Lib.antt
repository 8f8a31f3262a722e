pub mod Lent
pub mod Step
pub mod NextGroup
