-- What the theorems say, where `rules` has no word for it. Loop: the walk along the links. Places: what stands beside 12 and 15.
-- RecordKinds: the records of a kind. Cases: starred records, such as tell the kinds apart, and such as have
-- shaded cells. Shaded: shaded cells of a grid. Lines: the line to the board's edge, and the part of it before the first clue cell.
pub mod Loop
pub mod Places
pub mod RecordKinds
pub mod Cases
pub mod Shaded
pub mod Lines
