-- How a call answers. Outcome: numbers and values of document 01's table. ByRows: how a call goes by its rows. First: the first number or element with a
-- property. Lent: what is left in a lent buffer. Lists: counting, each and some, lists made of numbers or of other lists.
pub mod First
pub mod Outcome
pub mod ByRows
pub mod Lent
pub mod Lists
pub mod Writer
