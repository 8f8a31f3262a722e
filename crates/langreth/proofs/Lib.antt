-- Checks 1 to 7 in their order; what the sums on the way say; how a product ends.
mod Asked
mod Made
mod Outcome
