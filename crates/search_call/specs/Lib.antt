-- The search in code. Answers: what its answers tell. Runs: what a run hands out.
pub mod Answers
pub mod Runs
