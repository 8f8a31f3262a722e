-- G^< from an occupied start, place by place.
pub mod Rows
