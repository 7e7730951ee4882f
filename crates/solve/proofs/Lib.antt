-- How the program ends after the call of `solve_record`, and that what it prints fits.
pub mod Ends
