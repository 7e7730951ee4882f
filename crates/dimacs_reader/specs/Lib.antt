-- What the contracts of the reader's parts cite.
pub mod Lists
