-- Laws of the clauses of clue lines. LineLoop: putting along a line, from its far end to the clue.
-- Numbers: by numbers they are the clauses of document 01. Family: the clues of a grid, cell by cell.
pub mod LineLoop
pub mod Numbers
pub mod Family
