-- Where a lane stands, what a group of lanes is written out as, and the laws of writing it.
pub mod Lanes
pub mod Laws
pub mod Writing
pub mod Filled
