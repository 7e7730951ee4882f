-- The call `next` in code: how it counts.
pub mod Counts
