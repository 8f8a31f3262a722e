-- Rows of lanes, and a term that goes to all of them.
pub mod Rows
pub mod Numbers
pub mod Ranges
pub mod Parts
pub mod Fitting
