-- The clauses of a cell by numbers are those of document 01.
pub mod Cells
