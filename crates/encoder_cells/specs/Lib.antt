-- The clauses of an open cell by numbers: families 1, 3, 4 and 5 of document 01.
pub mod Cell
