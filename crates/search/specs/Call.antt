-- The calls of the search: what they get, their rows of "Turned down", and what they hand out. `next` of document 02's E1 gets what the search gets.
use Rattle.std.specs.Prelude.{ℕ, eqb, ltb, ℤ, nat_abs, length, ◌≡◌, Bool, true, false, not, ◌||◌, List, [], ◌∷◌, ◌++◌, Option, None, is_some}
use Rattle.answers.specs.Lists.{All}
use Rattle.answers.specs.declared.Outcome.{Outcome}
use Rattle.answers.specs.First.{first_where}
use Rattle.answers.specs.Outcome.{Row, row, cause, first_refusal}
use Rattle.answers.specs.Lent.{unless_refused}
use Rattle.cnf.specs.Literals.{closes, too_many_variables, beyond, wrong_list}
use Rattle.search.specs.Trail.{Entry, Trail, Slices, slices, image, entry_at, trail_of, is_unassigned, variable_value, values_of}
use Rattle.search.specs.Step.{failed_clause}
use Rattle.search.specs.Reasons.{wrong_numbers}
use Rattle.search.specs.Run.{Ending, Done, run, following, ending_number, done_outcome}

-- what a search gets, beside its budget: V, a clause list, the slices with a trail, its used count
pub record Search : Type 0 where
  pub variables : ℕ
  pub list : List ℤ
  pub slices : Slices
  pub used : ℕ

abbrev pub search_on : ℕ → List ℤ → List ℤ → List ℕ → List ℕ → ℕ → Search
search_on variables list trail marks numbers used = record { variables = variables; list = list; slices = slices trail marks numbers; used = used }

-- all that a call hands out: what it tells, and what it leaves in the lent slices
pub record Handed : Type 0 where
  pub outcome : Outcome
  pub slices : Slices

abbrev pub handed : Outcome → List ℤ → List ℕ → List ℕ → Handed
handed outcome trail marks numbers = record { outcome = outcome; slices = slices trail marks numbers }

-- 17: V too large, trail or marks not V long, used over V
abbrev pub wrong_lengths : ℕ → Slices → ℕ → Bool
wrong_lengths v s used = too_many_variables v || not (eqb (length s.trail) v) || not (eqb (length s.marks) v) || ltb v used

-- an entry that is 0, beyond V, on the variable of an earlier used entry (t are those before it), or with a mark not 0 or 1
abbrev pub wrong_entry : ℕ → Trail → Entry → Bool
wrong_entry v t e = closes e.literal || beyond v e.literal || not (is_unassigned (variable_value t (nat_abs e.literal))) || ltb 1 e.mark

abbrev pub wrong_entry_at : ℕ → Slices → ℕ → Bool
wrong_entry_at v s i = wrong_entry v (trail_of s i) (entry_at s i)

abbrev pub is_found : Option ℕ → Bool
is_found place = is_some place

-- 20: trail not full, or some clause untrue under it: under a full trail that is one whose literals are all false
abbrev pub untrue : ℕ → List ℤ → Slices → ℕ → Bool
untrue v ls s used = not (eqb used v) || is_found (failed_clause (variable_value (trail_of s used)) ls)

-- the two calls: the search, and `next`, which goes on to the following solution
pub data Call : Type 0 where
  Searching : Call
  Following : Call

module _ (s : Search) where
  -- search 17, 16, 18, 22
  abbrev pub search_rows : List Row
  search_rows =
      row 17 (cause (wrong_lengths s.variables s.slices s.used)) ∷
      row 16 (wrong_list s.variables s.list) ∷
      row 18 (first_where (wrong_entry_at s.variables s.slices) s.used) ∷
      row 22 (wrong_numbers s.variables s.list s.slices s.used) ∷
      []

  -- next 17, 16, 18, 22, 20
  abbrev pub rows_of : Call → List Row
  rows_of Searching = search_rows
  rows_of Following = search_rows ++ (row 20 (cause (untrue s.variables s.list s.slices s.used)) ∷ [])

  -- a call begins at the trail that it gets
  abbrev pub begins : Trail
  begins = trail_of s.slices s.used

-- what a call comes to from a trail
abbrev pub comes_to : Call → ℕ → List ℤ → ℕ → Trail → Done
comes_to Searching v ls budget t = run v ls budget t
comes_to Following v ls budget t = following v ls budget t

module _ (x : Call) (s : Search) where
  -- a call takes what it gets if no row has its cause
  pub record IsTaken : Type 0 where
    pub clear : All (λ (r : Row). r.beside ≡ None) (rows_of s x)

  module _ (budget : ℕ) where
    abbrev pub runs : Done
    runs = comes_to x s.variables s.list budget (begins s)

    -- what it tells: a refusal, or what it comes to
    abbrev pub outcome_of : Outcome
    outcome_of = first_refusal (rows_of s x) (done_outcome runs)

    -- it leaves the trail at which it ends
    abbrev pub hands : Handed
    hands = record { outcome = outcome_of; slices = unless_refused outcome_of s.slices (image s.variables runs.trail) }

-- what a call hands out that comes to d in slices of V elements
abbrev pub hands_done : ℕ → Done → Handed
hands_done v d = record { outcome = done_outcome d; slices = image v d.trail }

-- what a call hands out that takes what it gets
abbrev pub hands_taken : Call → Search → ℕ → Handed
hands_taken x s budget = hands_done s.variables (runs x s budget)

abbrev pub by_search : Search → ℕ → Handed
by_search s budget = hands Searching s budget

abbrev pub by_next : Search → ℕ → Handed
by_next s budget = hands Following s budget

-- of what a call hands out
module _ (h : Handed) where
  -- it says "found", "none" or "halted"
  abbrev pub Says : Ending → Type 0
  Says x = h.outcome.first ≡ ending_number x

  -- the number of steps that this call made
  abbrev pub steps : ℕ
  steps = h.outcome.second

  -- it ends at the trail that it leaves
  abbrev pub ends_at : Trail
  ends_at = trail_of h.slices h.outcome.third

-- the same list with another trail
abbrev pub on_slices : Search → Slices → ℕ → Search
on_slices s r used = record { variables = s.variables; list = s.list; slices = r; used = used }

-- a call on what an earlier one handed out
abbrev pub resumed : Search → Handed → Search
resumed s h = on_slices s h.slices h.outcome.third

-- the assignment on the trail that a call gets
abbrev pub given : Search → List Bool
given s = values_of s.variables (begins s)
