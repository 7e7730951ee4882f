-- What the contracts of the cursor's functions cite.
pub mod Cursors
