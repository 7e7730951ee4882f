-- Laws of the text of a list, for the proofs of the writer.
pub mod Lines
pub mod WriterRows
