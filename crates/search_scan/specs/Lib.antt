-- How the values of the variables are kept while a search runs, and what the scans over them are defined by.
pub mod PackedValues
pub mod Clause
