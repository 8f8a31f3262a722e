-- How a convolution ends.
mod Outcome
