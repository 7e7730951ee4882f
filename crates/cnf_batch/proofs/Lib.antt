-- Laws of batches. Words: the bits of a word. EachList: what the word says of each list. LiteralWords: the word of a literal. OneList, OnePass: the loop, for
-- one list and for all. Calls: the whole call. Theorems: what document 02's E8 says. Cases: calls, computed. Outcomes: the outcome tells the
-- answers apart.
pub mod Words
pub mod EachList
pub mod LiteralWords
pub mod OneList
pub mod OnePass
pub mod Calls
pub mod Theorems
pub mod Cases
pub mod Outcomes
