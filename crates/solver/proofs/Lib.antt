-- Read Theorems.antt (the solver's call), SolutionCounts.antt (how many solutions) and Tally.antt (document 02's E11). Listing.antt has the laws of search and
-- `next` on one budget, Reached.antt those of each call of it, Seen.antt those of a loop over them; Begun.antt has those of a search begun empty on a grid's
-- clauses, Decoded.antt what its satisfying assignments draw, Encoded.antt the clauses in a lent list.
pub mod Decoded
pub mod Encoded
pub mod Reached
pub mod Seen
pub mod Begun
pub mod Listing
pub mod Theorems
pub mod SolutionCounts
pub mod Tally
