-- What the tests of a cell compute, where the rules have no word for it.
pub mod Tests
