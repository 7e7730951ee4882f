-- Laws that the proofs of this crate and of those above share. Cases.antt: the cases hold.
pub mod Neighbours
pub mod Distinct
pub mod Known
pub mod Values
pub mod Occurs
pub mod Places
pub mod Clues
pub mod Cases
pub mod Lines
pub mod Bounds
pub mod Sizes
pub mod Lengths
pub mod ClauseLists
pub mod Counts
