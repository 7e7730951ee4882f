-- Clause lists: literals, clauses, assignments, and rows 16 and 17 (for V alone) of "Turned down".
pub mod Literals
pub mod Clauses
