-- When a norm need not be made to know a maximum: a part's size from its bits; a sum that the norm does not exceed, as that of a part and half the
-- other; and the middle above the largest.
mod Unsigned
mod Bound
mod Halves
mod Middles
