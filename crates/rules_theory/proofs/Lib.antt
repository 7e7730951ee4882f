-- Theorems about grids, drawings and the judge. Read Theorems.antt: it states the results; and
-- Lines.antt and Shaded.antt for those about lines and shaded cells. The others are in the order of the proofs.
pub mod Theorems
pub mod Finite
pub mod Directions
pub mod Ring
pub mod Round
pub mod WhiteCells
pub mod Around
pub mod Loop
pub mod Whole
pub mod Bytes
pub mod JudgeExact
pub mod Places
pub mod RecordKinds
pub mod Cases
pub mod Clues
pub mod Lines
pub mod Shaded
