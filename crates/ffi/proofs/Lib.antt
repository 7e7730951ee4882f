-- What C is told. The check finds the functions' proofs without these files; they are given so that a call with its arguments in a wrong order is refused
-- soon, where the check would seek a proof for many minutes.
pub mod OutcomeWords
