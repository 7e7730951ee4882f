-- Theorems about variables, clauses and decoding. Read Theorems.antt: it states the results. The others are in the order of the proofs.
pub mod Theorems
pub mod Flow
pub mod Oriented
pub mod Settled
pub mod Views
pub mod ClueLine
pub mod Valuations
pub mod Read
pub mod Sound
pub mod DrawnValues
pub mod Complete
pub mod Bytes
pub mod Exactly
pub mod Decoder
