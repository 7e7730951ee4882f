-- Laws of the check of a trail. Entries: what is wrong with an entry. Flags: turns of the loop that sets flags.
pub mod Entries
pub mod Flags
