-- Laws of decimal numbers, for the proofs here and above.
pub mod Decimals
