-- Document 02's E8: sixty-four value lists in one reading. Words: the bits of a word. Batch: the lists and the word that is answered. Call: what the call
-- tells. Answer: its outcome in document 01's numbers. Cases: calls, computed.
pub mod Words
pub mod Batch
pub mod Call
pub mod Answer
pub mod Cases
