-- Laws that the functions' proofs cite.
pub mod Later
pub mod Steps
pub mod Places
pub mod Filled
pub mod Shapes
pub mod Results
