-- The proof sheet of document 02's E7. Sheet: the text of a grid and a drawing. Reading: the grid and the drawing that a text shows. SheetCall: what the call
-- tells and leaves. Cases: three sheets.
pub mod Sheet
pub mod Reading
pub mod SheetCall
pub mod Cases
