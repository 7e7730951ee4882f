-- How many clauses and elements there are, by arithmetic.
pub mod Counts
