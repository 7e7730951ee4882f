-- What is written into a text: decimal numbers and the bytes between them.
pub mod Decimal
