-- Document 01, matrix: what a call's block holds and each call's outcome, with closed cases; then what each operation makes of its operands' entries.
pub mod Dense
pub mod Calls
pub mod Cases
pub mod Made
