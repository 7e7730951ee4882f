-- Laws of the buffers of a search. Bytes: marks and values in one byte. Entries: a trail with an entry more or less. WithTrail: a trail that is written whole.
pub mod Bytes
pub mod Entries
pub mod WithTrail
