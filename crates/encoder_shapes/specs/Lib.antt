-- Writing clauses by their numbers. Shapes: the clauses, and runs of them. Limits: what is asked of a list before it is written.
pub mod Limits
pub mod Shapes
