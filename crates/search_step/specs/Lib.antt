-- A step of the search in code: what it asks and hands out.
pub mod Steps
