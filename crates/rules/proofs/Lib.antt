-- Laws that the proofs of this crate and of those above share.
pub mod Boards
pub mod Records
pub mod Lines
pub mod Outcomes
