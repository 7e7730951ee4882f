-- What the judge's functions compute, where the rules have no word for it.
pub mod WalkMarks
