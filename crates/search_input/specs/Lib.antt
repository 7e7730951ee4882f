-- The check of a trail's entries. Entries: what may be wrong with one. Flags: the variables met so far, a byte for each.
pub mod Entries
pub mod Flags
