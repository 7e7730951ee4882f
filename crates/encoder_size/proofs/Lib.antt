-- Laws of counting. Lines: the clauses of a clue's line. Cells: those of a cell. All: those of all cells are all clauses.
pub mod Lines
pub mod Cells
pub mod All
