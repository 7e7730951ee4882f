-- Asking: row 23 as the code asks it. Blacks: the black cells by values.
pub mod Asking
pub mod Blacks
