-- Room: what a grid needs of the lent buffers. GridSearch: the search on a grid's clauses. Answer: the solver's answer in document 01's numbers.
pub mod Room
pub mod GridSearch
pub mod Answer
