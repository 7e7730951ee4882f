-- How the program goes on after the encoder's call, and that what it prints fits. Assumes nothing.
use Prim.Native.Nat.{ℕ, ◌≤◌}
use native.Mathlib.Omega.{arith}
use lib.IntN.{ℤ, pos}
use lib.ListN.{length, take, replicate, length-replicate}
use lib.Seq.{length-take-le}
use mathlib.Core.Path.{◌≡◌, refl, sym, ◌∙◌, ap}
use mathlib.Core.List.{List}
use Rattle.answers.specs.Lent.{Wrote}
use Rattle.answers.proofs.Lent.{wrote_recast}
use Rattle.rules.specs.Board.{board_of}
use Rattle.encoder.specs.Variables.{variable_count}
use Rattle.encoder_size.specs.declared.Counts.{Counts}
use Rattle.encoder_call.specs.Answer.{counts_outcome}
use Rattle.search.specs.Call.{search_on, Searching, IsTaken}
use Rattle.solver.specs.SolutionCount.{SolutionCount, NoSolution, OneSolution, SeveralSolutions, Unknown, solution_count_in, solution_count_of}
use Rattle.solver.specs.Begun.{BegunOn}
use Rattle.solver.proofs.Begun as begun
use Rattle.program_text.specs.Programs.{variable_limit, budget}
use Rattle.program_text.proofs.Limits.{printed_text, printed_fits}
use Rattle.program_text.proofs.Encoded.{Encodes, read, variables, listed, unrefused}
use Rattle.count_solutions.specs.Printed.{count_line, printed_count}

module _ {s : List ℕ} {new : List ℤ} {c : Counts} (w : Encodes s (counts_outcome c) new) (h : c.variables ≤ variable_limit) where
  -- the parts of trail, marks and clause numbers that are lent on
  part_long : {A : Type 0} (x : A) → length (take c.variables (replicate variable_limit x)) ≡ variable_count (board_of s)
  part_long x = length-take-le c.variables (replicate variable_limit x) (omega (arith, length-replicate variable_limit x)) ∙ variables w refl

  abbrev ts : List ℤ
  ts = take c.variables (replicate variable_limit (pos 0))

  abbrev ns : List ℕ
  ns = take c.variables (replicate variable_limit 0)

  same_long : length ns ≡ length ts
  same_long = part_long 0 ∙ sym (part_long (pos 0))

  pub taken : IsTaken Searching (search_on (length ts) (take c.elements new) ts ns ns 0)
  taken = begun.begun_taken s _ on
    where
      on : BegunOn s (search_on (length ts) (take c.elements new) ts ns ns 0)
      on =
          record {
            grid = read w refl;
            variables = part_long (pos 0);
            list = listed w refl;
            empty = refl;
            slices = record { trail = refl; marks = same_long; numbers = same_long };
          }

  pub ends-counted : {m : SolutionCount} {buf after : List ℕ} {r : ℕ} → m ≡ solution_count_in (length ts) (take c.elements new) budget
      → Wrote buf 0 (count_line m) after r → Wrote buf 0 (printed_count s) after r
  ends-counted e p =
      wrote_recast (ap count_line (e ∙ (λ i. solution_count_in (part_long (pos 0) i) (listed w refl i) budget)) ∙ printed_text _ (unrefused w refl h)) p

pub count_fits : (s : List ℕ) → length (printed_count s) ≤ 4096
count_fits s = printed_fits s _ 4096 (omega arith) (λ e. by (solution_count_of (board_of s) budget))
  where
    by : (m : SolutionCount) → length (count_line m) ≤ 4096
    by NoSolution = omega arith
    by OneSolution = omega arith
    by SeveralSolutions = omega arith
    by Unknown = omega arith
