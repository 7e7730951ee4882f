-- Theorems about DIMACS text. Read Theorems.antt: it states the results. The others are in the order of the proofs.
pub mod Theorems
pub mod Places
pub mod Automata
pub mod Decimals
pub mod Bytes
pub mod Numbers
pub mod Elements
pub mod Headers
pub mod Closings
pub mod Pieces
pub mod Runs
pub mod Shapes
pub mod ReadBack
pub mod Completions
pub mod Exactly
pub mod Lines
pub mod Calls
