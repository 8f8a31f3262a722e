-- What the requests of document 02 keep of document 01. A definition as document 01 first had it stands in the file of its law alone.
-- L1: in slices whose capacity is the points; L3 and L13: at a desk whose counter has room.
pub mod WholeCapacity
-- L2: no product where an interval has one point; each call on slices of N, then the transient run.
pub mod OnePoint
pub mod OnePointRun
-- L7: a seventh residual.
pub mod SeventhResidual
-- L8: the tolerance is asked before the time index and before the product.
pub mod ArgumentsFirst
-- L10: a trace that is not finite is refused by 10.
pub mod FiniteTrace
-- L5: a block g0 at +0.
pub mod ZeroStart
