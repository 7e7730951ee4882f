-- Theorems about the search and `next`. Read Theorems.antt (every call), ListedSteps.antt (its steps), Numbers.antt (the clause behind each entry),
-- Budgets.antt (calls in parts) and Listing.antt (calls carried on until "none"): they state the results. The others are in the order of the proofs.
pub mod Theorems
pub mod Lists
pub mod Values
pub mod Legal
pub mod OverClauses
pub mod Choices
pub mod Kept
pub mod Reasons
pub mod Full
pub mod Measure
pub mod Undo
pub mod Steps
pub mod Runs
pub mod Accepted
pub mod Places
pub mod Orders
pub mod Calls
pub mod Handed
pub mod Budgets
pub mod Listing
pub mod ListedSteps
pub mod Numbers
