-- How the terms of the sums at neighbouring places go to their lanes.
pub mod Kinds
pub mod Calls
pub mod Held
pub mod TermAt
pub mod Spans
