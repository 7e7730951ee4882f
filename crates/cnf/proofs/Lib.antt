-- Laws of lists.
pub mod Lists
