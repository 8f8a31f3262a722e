-- Document 01, "Bench cases (P is proved)": P1 to P12 as one theorem about the definitions that contracts cite.
pub mod Inputs
pub mod Printing
pub mod Bench
