-- What the proofs say of clauses by the variables' names, where `encoder` has no word for it.
pub mod Valuations
