-- What a call answers where a question refuses, and where all pass.
mod Answers
-- The outcome of what each observable measures is the call's.
pub mod Outcomes
