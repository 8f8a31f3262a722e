-- How a Dyson call ends; K and then G at the new places; forward substitution row by row.
mod Outcome
mod Solving
mod Rows
