-- Answer: the decoder's answer in document 01's numbers.
pub mod Answer
