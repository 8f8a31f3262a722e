-- Rows of sums, and Dyson's row: what is built of groups.
pub mod Forward
