-- How an answer leaves for a program in C or Rust.
-- Answer: what a call returns and writes. Stores: what a slice holds after stores. Agreement: the number that leaves is document 01's.
pub mod Answer
pub mod Stores
pub mod Agreement
