-- What is built by an index that goes up from 0: values, lists and tests, and their laws.
pub mod Prelude
pub mod Indexed
pub mod Agreement
pub mod Reading
pub mod Steps
pub mod Filling
pub mod Singles
