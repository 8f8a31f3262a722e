-- The sum at one place alone, at one orbital.
pub mod Walks
pub mod Singles
