-- Closed cases of two dots that do not couple: two accepted runs to which the theorem applies, and two of which one has groups that couple.
pub mod Cases
