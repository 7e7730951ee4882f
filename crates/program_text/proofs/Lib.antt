pub mod Encoded
pub mod Limits
pub mod Lines
pub mod Samples
