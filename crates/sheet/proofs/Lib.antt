-- Widths: three characters a cell, and the length of a sheet. Lines: its lines, and the characters at a place. GotBack: grid and drawing are read from it.
-- Cases: three sheets. Theorems: what document 02's E7 says of a sheet and its call.
pub mod Widths
pub mod Lines
pub mod GotBack
pub mod Cases
pub mod Theorems
