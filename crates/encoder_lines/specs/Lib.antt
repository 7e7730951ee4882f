-- The clauses of clue lines by numbers: family 2 of document 01.
pub mod Line
