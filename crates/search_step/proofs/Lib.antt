-- Laws of a step in code. Append: an entry more, and undoing. Chosen: one step.
pub mod Append
pub mod Chosen
