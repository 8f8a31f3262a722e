-- First what the contracts cite: the norm as document 01 has it, exact in natural numbers and rounded once; a part's size from its bits, and the
-- bits of a size; what the words of the code stand for; what the check of a guess says.
pub mod Norm
pub mod Parts
pub mod Words
pub mod Checked
-- Closed cases that hold the definition to the document, P1 to P5 among them; and what it is claimed to be, in IEEE 754's words.
pub mod Cases
pub mod Claims
-- Laws of numbers: squares and comparisons, the whole part of a root.
pub mod Squares
pub mod Roots
-- Laws of rounding: the root between two steps, the bits of a step, a part's size by its bits.
pub mod Cell
pub mod Encoding
pub mod Sizes
-- Laws of the norm: it is nearest, a binary64, ordered, and infinite from the threshold on.
pub mod Nearest
pub mod Value
pub mod Order
