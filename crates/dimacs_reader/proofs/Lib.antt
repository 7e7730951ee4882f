-- Laws of reading a list, and of the reader's rows.
pub mod Runs
pub mod Agrees
pub mod ListLoop
pub mod ReaderRows
