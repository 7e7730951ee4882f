-- Document 02, E10, "The clause behind each entry", in its words: when a clause is the reason for an entry, and the trails whose numbers keep to that.
use Rattle.std.specs.Prelude.{ℕ, ◌-◌, ◌≤◌, ℤ, length, get_or, ◌≡◌, Bool, true, ◌⊎◌, List, []}
use Rattle.answers.specs.First.{LeastWith}
use Rattle.answers.specs.Lists.{All, Some, ◌∈◌}
use Rattle.cnf.specs.Clauses.{split, value}
use Rattle.search.specs.Trail.{Entry, Trail, Slices, slices, entry_at, trail_of, False, Values, literal_value, variable_value}
use Rattle.search.specs.Call.{Search, on_slices}
use Rattle.search_theory.specs.Legal.{EachEntry}

-- "the clause holds the entry's literal, and every literal in it that differs from that one is false"
pub record Reason (w : Values) (l : ℤ) (c : List ℤ) : Type 0 where
  pub holds : l ∈ c
  pub others : All (λ k. (k ≡ l → ⊥) → literal_value w k ≡ False) c

-- the clause with a number from 1
abbrev pub clause_numbered : List ℤ → ℕ → List ℤ
clause_numbered ls n = get_or (split ls) (n - 1) []

-- an entry's number is that of a clause, which is its reason by the entries before it (t)
pub record HasReason (ls : List ℤ) (t : Trail) (e : Entry) : Type 0 where
  pub from_1 : 1 ≤ e.number
  pub to_last : e.number ≤ length (split ls)
  pub reason : Reason (variable_value t) e.literal (clause_numbered ls e.number)

-- an entry that keeps to this: its number is 0, or it is not marked 1 and has its reason
abbrev pub Explained : List ℤ → Trail → Entry → Type 0
Explained ls t e = (e.number ≡ 0) ⊎ ((e.mark ≡ 1 → ⊥) × HasReason ls t e)

-- each used entry does
abbrev pub AllExplained : List ℤ → Trail → Type 0
AllExplained ls t = EachEntry (Explained ls) t

-- "used entries" that "break this or have a non-zero number beside a mark 1": the entry at index i
pub record BreaksAt (ls : List ℤ) (s : Slices) (i : ℕ) : Type 0 where
  pub nonzero : (entry_at s i).number ≡ 0 → ⊥
  pub breaks : ((entry_at s i).mark ≡ 1) ⊎ (HasReason ls (trail_of s i) (entry_at s i) → ⊥)

-- "22, third slice not V long (beside it 0) or breaking this (the first entry)"
pub data NumbersFault (v : ℕ) (ls : List ℤ) (s : Slices) (used : ℕ) : ℕ → Type 0 where
  not_long : (length s.numbers ≡ v → ⊥) → NumbersFault v ls s used 0
  breaking : {i : ℕ} → length s.numbers ≡ v → LeastWith (BreaksAt ls s) used i → NumbersFault v ls s used i

-- what a call gets, with other numbers
abbrev pub renumbered : Search → List ℕ → Search
renumbered c ns = on_slices c (slices c.slices.trail c.slices.marks ns) c.used

-- "why a cell was forced": the clause holds the entry's literal, and under the assignments that agree with the entries before it no other literal of it is
-- true; so where the clause has a true literal, that is the entry's
pub record OnlyWay (a : List Bool) (l : ℤ) (c : List ℤ) : Type 0 where
  pub holds : l ∈ c
  pub no_other : All (λ k. value a k ≡ true → k ≡ l) c
  pub forced : Some (λ k. value a k ≡ true) c → value a l ≡ true
