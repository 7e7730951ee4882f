-- Calls of the tally, with what each tells and the counters that it leaves.
use Rattle.std.specs.Prelude.{ℕ, pos, replicate, List, [], ◌∷◌}
use Rattle.answers.specs.declared.Outcome.{Outcome}
use Rattle.answers.specs.Outcome.{refusal, answer}
use Rattle.search.specs.Trail.{slices}
use Rattle.solver.specs.Work.{work_of}
use Rattle.solver.specs.Tally.{Asked, TallyLent, tally_answer, tally_leaves}

-- what a call gets: so many counters, which hold 7, elements of the clause list and entries of trail, marks and numbers are lent
pub record TallyInput : Type 0 where
  pub bytes : List ℕ
  pub asked : Asked
  pub counters : ℕ
  pub elements : ℕ
  pub entries : ℕ
  pub budget : ℕ

abbrev pub lent_in : TallyInput → TallyLent
lent_in c =
    record {
      counters = replicate c.counters 7;
      work = work_of (replicate c.elements (pos 9)) (slices (replicate c.entries (pos 9)) (replicate c.entries 9) (replicate c.entries 9));
    }

-- with what it tells, and the counters after it
pub record TallyCase : Type 0 where
  pub gets : TallyInput
  pub tells : Outcome
  pub leaves : List ℕ

-- the same call, with what it comes to
abbrev pub tally_called : TallyCase → TallyCase
tally_called c =
    let i : TallyInput = c.gets in
    record {
      gets = i;
      tells = tally_answer i.bytes i.asked i.budget (lent_in i);
      leaves = (tally_leaves i.bytes i.asked i.budget (lent_in i)).counters;
    }

-- a cell and a direction
abbrev from : ℕ → ℕ → Asked
from cell direction = record { cell = cell; direction = direction }

-- 1×1, shaded: no variable, and one clause, which is empty
abbrev one_cell : Asked → ℕ → ℕ → ℕ → TallyInput
one_cell q counters elements budget =
    record { bytes = 7 ∷ 0 ∷ 1 ∷ 0 ∷ 1 ∷ 1 ∷ 0x50 ∷ []; asked = q; counters = counters; elements = elements; entries = 0; budget = budget }

-- 2×3 with a shaded cell 2: in the only solution cell 5 is black
abbrev six_cells : Asked → ℕ → ℕ → ℕ → TallyInput
six_cells q elements entries budget =
    record {
      bytes = 12 ∷ 0 ∷ 1 ∷ 0 ∷ 2 ∷ 3 ∷ 0 ∷ 0 ∷ 0x50 ∷ 0 ∷ 0 ∷ 0 ∷ [];
      asked = q;
      counters = 45;
      elements = elements;
      entries = entries;
      budget = budget;
    }

-- 2×5 of a kind with two cells in the middle of the first row, `00 00 a b 00 / 00 00 50 50 50`: a loop through cells 0, 1, 5 and 6 leaves cell 4, which is
-- black then
abbrev ten_cells : ℕ → ℕ → ℕ → Asked → ℕ → ℕ → TallyInput
ten_cells kind a b q elements entries =
    record {
      bytes = 16 ∷ 0 ∷ kind ∷ 0 ∷ 2 ∷ 5 ∷ 0 ∷ 0 ∷ a ∷ b ∷ 0 ∷ 0 ∷ 0 ∷ 0x50 ∷ 0x50 ∷ 0x50 ∷ [];
      asked = q;
      counters = 45;
      elements = elements;
      entries = entries;
      budget = 60;
    }

-- it is answered, and so many solutions have 0 and 1 black cells on the line, none has more
abbrev answered : TallyInput → ℕ → ℕ → ℕ → ℕ → TallyCase
answered i ending steps none one = record { gets = i; tells = answer ending steps 0; leaves = none ∷ one ∷ replicate 43 0 }

abbrev refused : TallyInput → ℕ → ℕ → TallyCase
refused i number beside = record { gets = i; tells = refusal number beside; leaves = replicate i.counters 7 }

abbrev pub tally_cases : List TallyCase
tally_cases =
    -- no solution; and halted at once
    answered (one_cell (from 0 1) 45 3 1) 2 1 0 0 ∷
    answered (one_cell (from 0 4) 45 1 0) 3 0 0 0 ∷
    -- not 45 counters, a cell off the board, directions that are none
    refused (one_cell (from 0 1) 44 1 9) 23 0 ∷
    refused (one_cell (from 0 1) 46 1 9) 23 0 ∷
    refused (one_cell (from 1 1) 45 1 9) 23 0 ∷
    refused (one_cell (from 4294967296 1) 45 1 9) 23 0 ∷
    refused (one_cell (from 0 0) 45 1 9) 23 0 ∷
    refused (one_cell (from 0 5) 45 1 9) 23 0 ∷
    refused (one_cell (from 0 257) 45 1 9) 23 0 ∷
    -- 23 before 6, and 6 beside the elements needed
    refused (one_cell (from 0 0) 45 0 9) 23 0 ∷
    refused (one_cell (from 0 1) 45 0 9) 6 1 ∷
    refused (six_cells (from 2 3) 589 0 60) 6 590 ∷
    refused (six_cells (from 2 3) 590 44 60) 6 45 ∷
    -- an open cell
    refused (six_cells (from 1 3) 590 45 60) 23 0 ∷
    -- the line to the south has the black cell, that to the west has none; and buffers that are longer than needed
    answered (six_cells (from 2 3) 600 50 60) 2 53 0 1 ∷
    answered (six_cells (from 2 4) 590 45 60) 2 53 1 0 ∷
    -- the solution is found at step 46: a "found" on the last step of the budget is counted, and "none" on it is "none"
    answered (six_cells (from 2 3) 590 45 45) 3 45 0 0 ∷
    answered (six_cells (from 2 3) 590 45 46) 3 46 0 1 ∷
    answered (six_cells (from 2 3) 590 45 53) 2 53 0 1 ∷
    -- past the clue in cell 3 the line from cell 2 has the black cell in kind 1; in kind 3 it stops before the clue
    answered (ten_cells 1 0x50 0x10 (from 2 2) 527 44) 2 51 0 1 ∷
    answered (ten_cells 3 0x50 0x10 (from 2 2) 527 44) 2 51 1 0 ∷
    -- in kind 3 the line of the clue "east, 0" in cell 2 goes on past cell 3, which stays shaded: no solution
    answered (ten_cells 3 0x20 0x50 (from 3 1) 537 46) 2 13 0 0 ∷
    []
