-- "DIMACS text" of documents 01 and 02. Read Text (the text of a list), Accepted (the texts that are taken), Reader (the bytes one by one), Tokens (what
-- stands at a place), Calls (what writer and reader tell), Answers (their enums in document 01's numbers). Sample: a text of document 01.
pub mod Text
pub mod Accepted
pub mod Automaton
pub mod Reader
pub mod Tokens
pub mod Calls
pub mod Answers
pub mod Sample
