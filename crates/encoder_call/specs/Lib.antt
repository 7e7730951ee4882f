-- Families: those that go cell by cell. Answer: the encoder's answer in document 01's numbers.
pub mod Families
pub mod Answer
