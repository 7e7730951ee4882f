-- Laws of the lines, of how a call ends, and of the answers.
pub mod LineParts
pub mod Ends
pub mod Outcomes
