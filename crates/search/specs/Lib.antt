-- The search. Trail: the trail, its image in the lent slices, the values it gives, what is open at it. Step: one step and its choices.
-- Reasons: the clause behind an entry. Run: steps under a budget, from any trail or on from a full one. Call: what the calls get, their refusals and what
-- they hand out. Cases: the starred lists, lists that tell in which order forced literals are appended, and calls for the numbers.
pub mod Trail
pub mod Step
pub mod Reasons
pub mod Run
pub mod Call
pub mod Cases
