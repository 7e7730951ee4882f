-- Laws of the families cell by cell, and of the call.
pub mod EachCell
pub mod Ends
pub mod Outcomes
