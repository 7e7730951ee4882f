-- Laws for the proofs beside this file and for the crates above.
pub mod Blacks
