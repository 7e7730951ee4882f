-- Printing: what a program that prints a solution prints, with a drawing and without. Ends: how `solve_record` ends after the solver's call.
pub mod Printing
pub mod Ends
