-- What the program prints for the bytes on its standard input: the limits, the budget and the refusals are those of program 2.
use Rattle.std.specs.Prelude.{ℕ, List}
use Rattle.rules.specs.Board.{board_of}
use Rattle.solver.specs.SolutionCount.{SolutionCount, NoSolution, OneSolution, SeveralSolutions, Unknown, solution_count_of}
use Rattle.program_text.specs.Lines.{none_line, one_line, several_line, halted_line}
use Rattle.program_text.specs.Programs.{program_number, printed, budget}

abbrev pub count_line : SolutionCount → List ℕ
count_line NoSolution = none_line
count_line OneSolution = one_line
count_line SeveralSolutions = several_line
count_line Unknown = halted_line

abbrev pub printed_count : List ℕ → List ℕ
printed_count s = printed (program_number s) (count_line (solution_count_of (board_of s) budget))
