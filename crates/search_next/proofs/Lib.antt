-- Laws of the call `next` in code. Drop: the drop and the search that goes on. Calls: the rows of the whole call.
pub mod Drop
pub mod Calls
