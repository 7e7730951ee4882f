-- Laws of the check of the numbers. Places: where clauses begin. Values: the bytes of a window. Reasons: turns of the loops over a clause and over the entries.
-- Windows: the variables, window by window.
pub mod Places
pub mod Values
pub mod Reasons
pub mod Windows
