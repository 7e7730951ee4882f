-- Laws of the scans. Literals: a literal's value by its code and its variable's number. Scans: turns of the loops over the list.
-- Marks: turns of the loops over the marks.
pub mod Literals
pub mod Scans
pub mod Marks
