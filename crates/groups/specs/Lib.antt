-- The sums at neighbouring places of a row, side by side.
-- Behind the contracts: a group's sums and Dyson's, and what each call leaves; the sum at a place; sums from numbers that are given.
pub mod Groups
pub mod PlaceSums
pub mod Onto
-- What the functions on the way there hold: the right factor's numbers, packed or where they stand; the partial sums.
pub mod Right
pub mod Packed
pub mod InPlace
pub mod PartialSums
-- Laws: Dyson's sums from rows as they stand; places with no term; the steps of a loop over the groups of a row.
pub mod Forward
pub mod Zero
pub mod Steps
pub mod Runs
