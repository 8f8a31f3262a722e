-- The checks as the code asks them.
mod Lent
