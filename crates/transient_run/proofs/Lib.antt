-- P12; the checks in their order; K, G^R, X and G^< one after another; how a call ends.
pub mod P12
mod Asked
mod Working
mod Solving
mod Running
