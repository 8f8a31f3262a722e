-- Document 01, "Arithmetic under everything": what contracts cite, the operations, the sum and the largest, and complex numbers in a list; closed
-- cases that hold them to the document. Then laws: of sums that agree, of a maximum by rows, of what is not finite, of zeros of either sign, of sums that are never −0, of a slice that
-- is filled, and of where a number has bits.
pub mod Arithmetic
pub mod Sum
pub mod Numbers
pub mod Cases
pub mod Agreement
pub mod Largest
pub mod Finite
pub mod Zeros
pub mod MinusZero
pub mod Filling
pub mod Bits
