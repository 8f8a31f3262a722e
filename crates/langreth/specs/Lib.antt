-- Document 01, Langreth.
-- Behind the contract: the four components of a product, the call's answer and what its outputs hold.
pub mod Calls
pub mod Operand
-- Closed cases: a product of two functions, 10 and another refusal.
pub mod Cases
-- Laws: two functions added number by number; whether all that is made is finite, component by component; checks 1 to 7 of two groups of slices.
pub mod Added
pub mod Finite
pub mod Checks
