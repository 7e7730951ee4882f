-- What the three buffers hold while a search runs, and how an entry is written into them.
pub mod Packed
