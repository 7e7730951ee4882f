-- What the theorems say, where `search` has no word for it. Openings: what is open at a trail, and found. Legal: legal trails. Reasons: the clause behind an
-- entry, and row 22 in E10's words.
-- Places: rows 16 and 18 in document 01's words. Choices: what a step chooses, in its words and those of E9. ListedSteps: the steps as relations.
-- Listing: calls continued until "none". Budgets: a call in parts.
pub mod Openings
pub mod Legal
pub mod Reasons
pub mod Places
pub mod Choices
pub mod ListedSteps
pub mod Budgets
pub mod Listing
