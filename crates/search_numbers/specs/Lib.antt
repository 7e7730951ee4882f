-- The check of the numbers of a trail's entries. Places: where clauses begin. Entries: what the entries are read against. Window: what the values of some
-- variables show of a number.
pub mod Places
pub mod Entries
pub mod Window
