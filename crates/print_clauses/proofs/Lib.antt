-- How the program goes on after the encoder's call, and that what it prints fits.
pub mod Ends
pub mod Fits
