-- Document 02, E11, "What each number would allow", as one statement, in its order and words; what is in quotation marks is the request's.
-- The call is `solver_tally::tally`; by its contract what it tells is `tally_answer`, and what it leaves in the lent buffers is `tally_leaves`. It gets a
-- record, a cell and a direction (`Asked`), a budget and the buffers (`TallyLent`). `with_blacks` of a line, drawings and n is how many of them have n
-- black cells on it.
use Rattle.std.specs.Prelude.{ℕ, ◌≤◌, ◌<◌, length, get_or, take, drop, ◌≡◌, Bool, true, ◌↔◌, ◌⊎◌, List, [], ◌∷◌, ◌++◌, map}
use Rattle.answers.specs.Outcome.{row, cause}
use Rattle.answers.specs.Lent.{too_short}
use Rattle.answers.specs.ByRows.{ByRows}
use Rattle.rules.specs.declared.Cell.TheVariants.{Shaded}
use Rattle.rules.specs.Record.{grid_of, grid_cell, size, direction_of, record_rows, IsAccepted}
use Rattle.rules.specs.Board.{board_of}
use Rattle.rules.specs.Solutions.{Solutions}
use Rattle.rules_theory.specs.Shaded.{ClueShaded}
use Rattle.encoder.specs.Variables.{variable_count}
use Rattle.encoder.specs.Clauses.{clause_list}
use Rattle.encoder.specs.Encoding.{encoder_leaves}
use Rattle.encoder.specs.Decoding.{decoded, bytes_of}
use Rattle.search.specs.Trail.{Slices, filled_slices}
use Rattle.search.specs.Run.{Ending, None, Halted, ending_number}
use Rattle.search.specs.Call.{Search, search_on, Handed, Searching}
use Rattle.search_theory.specs.Listing.{Lists}
use Rattle.solver.specs.Begun.{BegunOn}
use Rattle.solver.specs.Listing.{Carries}
use Rattle.solver.specs.Work.{Work}
use Rattle.solver.specs.Tally.{with_blacks, sum, Asked, asked_line, TallyLent, wrong_tally, tally_rows, tally_answer, tally_leaves}
use Rattle.solver.specs.Cases.{tally_cases, tally_called}
use Rattle.demands.specs.RequestE4.{EitherKind}

module _ (s : List ℕ) (q : Asked) (budget : ℕ) (lent : TallyLent) where
  -- the call is not refused
  abbrev pub Answered : Type 0
  Answered = (tally_answer s q budget lent).number ≡ 0

  -- it says "none" or "halted"
  abbrev pub Tells : Ending → Type 0
  Tells x = (tally_answer s q budget lent).first ≡ ending_number x

  -- counter n, once it is filled
  abbrev pub counter : ℕ → ℕ
  counter n = get_or (tally_leaves s q budget lent).counters n 0

  -- the calls of search and `next`, begun on c
  pub record ListedBy (c : Search) : Type 0 where
    -- the assignments found, what the last call hands out, and that all are on one budget, with the steps in all
    pub found : List (List Bool)
    pub last : Handed
    pub calls : Carries Searching c budget found last (tally_answer s q budget lent).second
    -- the last call's answer is told
    pub answered : last.outcome.first ≡ (tally_answer s q budget lent).first
    -- the counters are those of the solutions found, which are the first that E1 lists
    pub counters : (n : ℕ) → n < 45 → counter n ≡ with_blacks (asked_line s q) (map (λ a. decoded (board_of s) (bytes_of a)) found) n
    pub later : List (List Bool)
    pub lists : Lists Searching c (found ++ later)
    pub solutions : Solutions (board_of s) (map (λ a. decoded (board_of s) (bytes_of a)) (found ++ later))
    -- its trail, marks and numbers are left
    pub slices : (tally_leaves s q budget lent).work.slices ≡ filled_slices lent.work.slices last.slices

-- the search begun empty on the grid's clauses, in the first V elements of these slices
abbrev pub begun_in : List ℕ → Slices → Search
begun_in s lent =
    let v : ℕ = variable_count (board_of s) in
    search_on v (clause_list (board_of s)) (take v lent.trail) (take v lent.marks) (take v lent.numbers) 0

-- the work buffers before and after, past the elements of a clause list and V entries of each slice
pub record Past (before after : Work) (elements v : ℕ) : Type 0 where
  pub list : drop elements after.list ≡ drop elements before.list
  pub trail : drop v after.slices.trail ≡ drop v before.slices.trail
  pub marks : drop v after.slices.marks ≡ drop v before.slices.marks
  pub numbers : drop v after.slices.numbers ≡ drop v before.slices.numbers

pub record RequestE11 : Type 0 where
  -- "A setter who has placed an arrow wants to see its numbers tried out."
  -- (Of a grid with an arrow in that cell, and the grid with the cell shaded in its place: counter n is how many solutions the first has with the number n.
  -- In kind 3, which is E12's, the arrow would stop other lines and the shaded cell does not: there the counters are of the second grid alone, as below.)
  pub tried_out : (s : List ℕ) (q : Asked) (budget : ℕ) (lent : TallyLent) → Answered s q budget lent → Tells s q budget lent None → EitherKind s
      → (r : List ℕ) (n : ℕ) → n < 45 → ClueShaded r s q.cell (direction_of q.direction) n
      → (dss : List (List ℕ)) → Solutions (board_of r) dss → counter s q budget lent n ≡ length dss
  -- "Given a grid, a shaded cell in it and a direction, fill 45 lent 64-bit counters: counter n is how many solutions have n black cells on that line."
  -- (dss has every solution of the grid once, as some list does. In code the counters are of 64 bits; none is larger than the steps made.)
  pub given : (s : List ℕ) (q : Asked) (budget : ℕ) (lent : TallyLent) → Answered s q budget lent
      → IsAccepted s × (grid_cell s q.cell ≡ Shaded) × (q.cell < size (grid_of s)) × (1 ≤ q.direction) × (q.direction ≤ 4)
  pub fills : (s : List ℕ) (q : Asked) (budget : ℕ) (lent : TallyLent) → Answered s q budget lent → length (tally_leaves s q budget lent).counters ≡ 45
  pub counts : (s : List ℕ) (q : Asked) (budget : ℕ) (lent : TallyLent) → Answered s q budget lent → Tells s q budget lent None
      → (dss : List (List ℕ)) → Solutions (board_of s) dss → (n : ℕ) → n < 45 → counter s q budget lent n ≡ with_blacks (asked_line s q) dss n
  pub solutions : (s : List ℕ) → IsAccepted s → (dss : List (List ℕ)) × Solutions (board_of s) dss
  pub no_overflow : (s : List ℕ) (q : Asked) (budget : ℕ) (lent : TallyLent) → Answered s q budget lent
      → (n : ℕ) → n < 45 → counter s q budget lent n ≤ (tally_answer s q budget lent).second
  -- "Unless halted, they add up to the solutions of the grid."
  pub adds_up : (s : List ℕ) (q : Asked) (budget : ℕ) (lent : TallyLent) → Answered s q budget lent → Tells s q budget lent None
      → (dss : List (List ℕ)) → Solutions (board_of s) dss → sum (tally_leaves s q budget lent).counters ≡ length dss
  -- "The search begins empty on the grid's clauses, the cell still shaded, and goes on by E1 until "none", all on one budget; that "none", or "halted", is
  -- answered with the steps in all, and a halted answer's counters are those of the solutions listed up to there."
  -- (`ListedBy` has the calls, the answer, the steps and the counters. The search may begin on the first V elements of the lent slices, and on any others.)
  pub begins : (s : List ℕ) (q : Asked) (budget : ℕ) (lent : TallyLent) → Answered s q budget lent → BegunOn s (begun_in s lent.work.slices)
  pub listed : (s : List ℕ) (q : Asked) (budget : ℕ) (lent : TallyLent) → Answered s q budget lent → (c : Search) → BegunOn s c → ListedBy s q budget lent c
  pub none_or_halted : (s : List ℕ) (q : Asked) (budget : ℕ) (lent : TallyLent) → Answered s q budget lent
      → Tells s q budget lent None ⊎ Tells s q budget lent Halted
  pub few_steps : (s : List ℕ) (q : Asked) (budget : ℕ) (lent : TallyLent) → Answered s q budget lent
      → ((tally_answer s q budget lent).second ≤ budget) × (Tells s q budget lent Halted → (tally_answer s q budget lent).second ≡ budget)
  -- "The lent clause list and trail end as the encoder and the last search leave them;"
  -- (`ListedBy` has the trail, with its marks and numbers.)
  pub list_left : (s : List ℕ) (q : Asked) (budget : ℕ) (lent : TallyLent) → Answered s q budget lent
      → (tally_leaves s q budget lent).work.list ≡ encoder_leaves s lent.work.list
  -- "one too short is refusal 6, after 23, sought in the order clause list, trail, marks, clause numbers;"
  -- (Beside it the elements needed: those of the clause list, and V.)
  pub sought_in_order : (s : List ℕ) (q : Asked) (lent : TallyLent) → tally_rows s q lent ≡ record_rows s ++ (
      row 23 (cause (wrong_tally s q lent.counters)) ∷
      row 6 (too_short (length lent.work.list) (length (clause_list (board_of s)))) ∷
      row 6 (too_short (length lent.work.slices.trail) (variable_count (board_of s))) ∷
      row 6 (too_short (length lent.work.slices.marks) (variable_count (board_of s))) ∷
      row 6 (too_short (length lent.work.slices.numbers) (variable_count (board_of s))) ∷
      []
      )
  -- "elements past what is needed are untouched."
  pub untouched : (s : List ℕ) (q : Asked) (budget : ℕ) (lent : TallyLent) → Answered s q budget lent
      → Past lent.work (tally_leaves s q budget lent).work (length (clause_list (board_of s))) (variable_count (board_of s))
  -- "Errors: 23, not 45 counters, cell not shaded, or direction not 1 to 4, beside it 0, after 5."
  pub by_rows : (s : List ℕ) (q : Asked) (budget : ℕ) (lent : TallyLent)
      → ByRows (1 ∷ 2 ∷ 3 ∷ 4 ∷ 5 ∷ 23 ∷ 6 ∷ 6 ∷ 6 ∷ 6 ∷ []) (tally_rows s q lent) (tally_answer s q budget lent) (tally_leaves s q budget lent ≡ lent)
  pub wrong_23 : (s : List ℕ) (q : Asked) (counters : List ℕ)
      → wrong_tally s q counters ≡ true ↔ ((length counters ≡ 45 → ⊥) ⊎ (grid_cell s q.cell ≡ Shaded → ⊥) ⊎ (((1 ≤ q.direction) × (q.direction ≤ 4)) → ⊥))
  -- (Calls, computed.)
  pub samples : map tally_called tally_cases ≡ tally_cases
