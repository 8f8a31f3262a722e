-- The proof that `norm` is its definition, on plain numbers. Each function cites what it needs.
-- What the words hold, and a digit of the root.
mod Words
mod Root
-- The exponents as `i16` numbers and by leading zeros, and which way the root's digits are rounded.
mod Sixteen
mod Exponents
mod Rounding
-- The parts' bits to the sum of their squares, the check of a guess and what it settles, and the definition's cases by the parts' bits.
mod SumOfSquares
mod Middles
mod ByBits
