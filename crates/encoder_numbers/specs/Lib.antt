-- Tables: the sizes of the cells before each cell, in a table. Numbered: the numbers of a cell's variables and of its neighbours'.
pub mod Tables
pub mod Numbered
