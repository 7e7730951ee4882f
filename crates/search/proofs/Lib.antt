-- Laws of the search's definitions. Cases: the starred lists hold. OrderCases, NextCases: calls of the search and of `next`, computed.
-- BudgetSums: a run that is halted and continued.
pub mod Trails
pub mod Endings
pub mod Cases
pub mod OrderCases
pub mod NextCases
pub mod BudgetSums
