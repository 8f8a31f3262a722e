-- Laws that rest on where an entry stands.
pub mod Places
pub mod ReadBack
pub mod Written
pub mod Cleared
pub mod NewPlaces
pub mod PointsFinite
