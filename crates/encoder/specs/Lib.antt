-- The variables and clauses of a grid, the encoder's and the decoder's answers. Read Variables, Clauses, Encoding and Decoding: document 01's sections in its
-- order. Cases: grids and what the encoder makes of them.
pub mod Variables
pub mod Clauses
pub mod Encoding
pub mod Decoding
pub mod Bounds
pub mod Cases
