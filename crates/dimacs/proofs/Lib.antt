-- Laws that the proofs of the crates above share.
pub mod Outcomes
pub mod Tokens
