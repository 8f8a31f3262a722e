-- Documents 01 and 02, computed: runs of two orbitals, the order of their questions, 10 by each function; appends, and what they read of old entries; P12 in
-- a capacity, appended point by point; runs at the edge of a counter, and desks; a dot that starts occupied.
pub mod Runs
pub mod Appends
pub mod P12Appended
pub mod Sessions
pub mod Occupied
