-- What the exported chain of products answers.
pub mod Chain
