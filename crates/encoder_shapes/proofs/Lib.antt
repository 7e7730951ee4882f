-- Laws of writing clauses, turn by turn and part by part.
pub mod Turns
