-- Laws of the search on a grid's clauses, and of the call.
pub mod GridSearch
pub mod Ends
pub mod Outcomes
