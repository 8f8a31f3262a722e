-- The answers of an observable and a report, as they leave. Agreement: with document 01's numbers.
pub mod Numbers
pub mod Agreement
