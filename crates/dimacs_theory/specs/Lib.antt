-- What the theorems say, where `dimacs` has no word for it. Place: the place of refusal 19. Reading: what is read from a text, and what the two calls hand
-- out. Lines: the writer's text, clause by clause, and runs of blanks between numbers. Tokens: what stands at a place, by its bytes.
pub mod Place
pub mod Reading
pub mod Lines
pub mod Tokens
