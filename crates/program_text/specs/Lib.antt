-- What the programs print. Counts: a count of bytes in a buffer. Lines: their lines, byte by byte. Programs: the whole of it for programs 1
-- and 2, from the bytes of a record.
pub mod Counts
pub mod Lines
pub mod Programs
