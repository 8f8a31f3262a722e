-- Behind the contracts: G^R(t,0)·g0, and G^< at a group of places from there. Then what the functions on the way hold: products by places of lists, and
-- lanes of them.
pub mod Calls
pub mod Products
pub mod Lanes
