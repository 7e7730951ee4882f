-- What the programs print where there is no drawing, and the contract of `solve_record`.
pub mod Solutions
