-- Begun: a search begun empty on a grid's clauses. Work: the work buffers. SolverCall: the solver's call, made of the encoder's, the search's and the
-- decoder's definitions. Listing: search and `next` on one budget. SolutionCount: whether a grid has no solution, one or several. Tally: document 02's E11.
-- Cases: calls of the tally.
pub mod Begun
pub mod Work
pub mod SolverCall
pub mod Listing
pub mod SolutionCount
pub mod Tally
pub mod Cases
