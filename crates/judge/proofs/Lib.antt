-- Laws that the proofs of this crate share.
pub mod TraceMarks
pub mod JudgeRows
