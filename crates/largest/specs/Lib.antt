-- First what the contracts cite: the digits of parts at one exponent, a root below a middle, half a number.
pub mod Digits
-- The order of all values, and the larger of two: how a maximum goes on from one that is known.
pub mod Order
pub mod Larger
