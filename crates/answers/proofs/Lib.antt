-- Laws that the crates above share.
pub mod Bools
pub mod Elements
pub mod First
pub mod Bounds
pub mod Lent
pub mod Lists
pub mod OneToOne
pub mod Options
pub mod Results
pub mod Rows
pub mod ByRows
pub mod Settled
pub mod Putting
