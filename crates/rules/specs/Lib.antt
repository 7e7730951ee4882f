-- What a grid is, and when a drawing is a solution. Read Record, Board, Drawing and Judge: document 01's sections in its order.
-- Solutions: how many a grid has.
pub mod Directions
pub mod Record
pub mod Read
pub mod Board
pub mod Drawing
pub mod Walk
pub mod Judge
pub mod Solutions
