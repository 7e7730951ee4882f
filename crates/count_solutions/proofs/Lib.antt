-- Read Theorems.antt. Ends: how the program goes on after the encoder's call, and that what it prints fits. Samples: what it prints for two records, computed.
pub mod Theorems
pub mod Ends
pub mod Samples
