-- Characters: the three characters of a cell in code. Answer: the call's answer in document 01's numbers.
pub mod Characters
pub mod Answer
