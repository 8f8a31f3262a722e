-- Document 01, support: the scale, the residual and check 9 of a function, and the two calls; closed cases, P8 and P9 among them. Then laws: the
-- largest norm by the order of a list's numbers, and check 9 place by place after the checks before it.
pub mod Support
pub mod Cases
pub mod Scale
pub mod CheckNine
