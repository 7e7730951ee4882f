-- The satisfying assignments that are open at a trail, and what a "found" has found.
use Rattle.std.specs.Prelude.{ℕ, ℤ, length, ◌≡◌, Bool, List}
use Rattle.cnf.specs.Clauses.{Assignment, Satisfies}
use Rattle.search.specs.Trail.{Trail, Agrees, Open, values_of}
use Rattle.search.specs.Call.{Search, Call, Searching, Following, begins, given}

-- a satisfying assignment that is open at a trail
pub record OpenAt (v : ℕ) (ls : List ℤ) (t : Trail) (a : List Bool) : Type 0 where
  pub assignment : Assignment v a
  pub satisfies : Satisfies a ls
  pub is_open : Open a t

-- what a call looks for, by what is open at a trail: the search, the satisfying assignments; `next`, those other than the one that it was given
abbrev pub Sought : Call → Search → Trail → List Bool → Type 0
Sought Searching s t a = OpenAt s.variables s.list t a
Sought Following s t a = OpenAt s.variables s.list t a × (a ≡ given s → ⊥)

-- a trail that is one assignment: its V values make its literals true, and no others do
pub record OneAssignment (v : ℕ) (t : Trail) : Type 0 where
  pub assignment : Assignment v (values_of v t)
  pub agrees : Agrees (values_of v t) t
  pub only : (a : List Bool) → Assignment v a → Agrees a t → a ≡ values_of v t

-- the trail is full, and as an assignment it is one of those that the call looked for
pub record FoundOne (x : Call) (s : Search) (t : Trail) : Type 0 where
  pub full : length t ≡ s.variables
  pub values : OneAssignment s.variables t
  pub is_one : Sought x s (begins s) (values_of s.variables t)
