-- What the program prints for the bytes on its standard input: the limits, the budget and the refusals are those of program 2.
use Rattle.std.specs.Prelude.{ℕ, List}
use Rattle.sheet.specs.Sheet.{sheet_of}
use Rattle.program_text.specs.Programs.{solution_text}
use Rattle.program_solution.specs.Solutions.{solution_drawing}

-- the sheet of the drawing that the search finds; or `none` or `halted`
abbrev pub printed_sheet : List ℕ → List ℕ
printed_sheet s = solution_text s (sheet_of s (solution_drawing s))
