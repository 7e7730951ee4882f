-- How the program ends after the call of `solve_record`, and that what it prints fits. Theorems: what is printed says of the grid.
pub mod Ends
pub mod Theorems
