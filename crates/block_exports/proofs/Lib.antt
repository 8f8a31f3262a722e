-- The law that the measured chain's proof cites.
pub mod Steps
