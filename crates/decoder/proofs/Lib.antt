-- Laws of the values' bytes, and of the call.
pub mod Values
pub mod Answers
pub mod Filled
pub mod Outcomes
