-- Document 02, E10, "The clause behind each entry", as one statement, in its order and words; what is in quotation marks is the request's.
-- What a search gets and hands out has three slices: trail, marks and numbers (`Slices`). Entry i of slices s is `entry_at s i`, and the entries before it are
-- `trail_of s i`. Where a step alone is spoken of, it is asked of the list only that its last clause is closed, as it is in each that is accepted.
use Rattle.std.specs.Prelude.{ℕ, suc, ◌≤◌, ◌<◌, ℤ, pos, neg_ℤ, length, get_or, drop, ◌≡◌, Bool, false, ◌↔◌, List, [], ◌∷◌, None, Some}
use Rattle.answers.specs.ByRows.{ByRows}
use Rattle.answers.specs.First.{first_where, FirstIn}
use Rattle.answers.specs.Lists.{All}
use Rattle.cnf.specs.Literals.{unclosed, wrong_list}
use Rattle.search.specs.Trail.{Entry, entry, Trail, Slices, HasLength, entry_at, trail_of, variable_value, Agrees}
use Rattle.search.specs.Step.{Moved, undoes, step}
use Rattle.search.specs.Reasons.{wrong_numbers}
use Rattle.search.specs.Call.{Search, wrong_lengths, wrong_entry_at, Call, Searching, Following, rows_of, begins, IsTaken, hands, by_search, by_next, ends_at, resumed}
use Rattle.search.specs.Cases.{NumberCase, number_cases, called}
use Rattle.search_theory.specs.Choices.{NoneFailed, ForcingClause, NoneForcing, LowestUnassigned}
use Rattle.search_theory.specs.ListedSteps.{MarkedOne, Undoes, Leads}
use Rattle.search_theory.specs.Reasons.{clause_numbered, AllExplained, NumbersFault, renumbered, OnlyWay}
use Rattle.demands.specs.Demands.{Demand1, Demand2, Demand3}
use Rattle.demands.specs.RequestE1.{RequestE1}
use Rattle.demands.specs.RequestE2.{RequestE2}
use Rattle.demands.specs.RequestE9.{RequestE9}

-- 17, 16 and 18 have no cause
pub record NoneBefore22 (c : Search) : Type 0 where
  pub none_17 : wrong_lengths c.variables c.slices c.used ≡ false
  pub none_16 : wrong_list c.variables c.list ≡ None
  pub none_18 : first_where (wrong_entry_at c.variables c.slices) c.used ≡ None

-- what was said of trails before
pub record EarlierTrails : Type 0 where
  pub demand_1 : Demand1
  pub demand_2 : Demand2
  pub demand_3 : Demand3
  pub e1 : RequestE1
  pub e2 : RequestE2
  pub e9 : RequestE9

pub record RequestE10 : Type 0 where
  -- "The help page shows why a cell was forced."
  -- (Of every entry with a number: under the assignments that agree with the entries before it, the clause leaves its literal as the only way.)
  pub why_forced : (x : Call) (c : Search) → IsTaken x c → (budget i : ℕ) → i < (hands x c budget).outcome.third
      → ((entry_at (hands x c budget).slices i).number ≡ 0 → ⊥) → (a : List Bool) → Agrees a (trail_of (hands x c budget).slices i)
      → OnlyWay a (entry_at (hands x c budget).slices i).literal (clause_numbered c.list (entry_at (hands x c budget).slices i).number)
  -- "A third lent slice of V 64-bit numbers travels with the trail:"
  -- (A call that is taken gets, and leaves, V elements in each slice. In code they are of 64 bits.)
  pub gets_V : (x : Call) (c : Search) → IsTaken x c → HasLength c.variables c.slices
  pub leaves-V : (x : Call) (c : Search) → IsTaken x c → (budget : ℕ) → HasLength c.variables (hands x c budget).slices
  -- "for an entry appended by a clause, that clause's number from 1;"
  -- (k is the clause's index, from 0.)
  pub forced_number : (v : ℕ) (ls : List ℤ) → unclosed ls ≡ false → (t : Trail) → NoneFailed (variable_value t) ls
      → (k : ℕ) (l : ℤ) → ForcingClause (variable_value t) ls k l → step v ls t ≡ Moved (entry l 0 (suc k) ∷ t)
  -- "for a choice or a negated choice, 0;"
  -- (A failed clause negates a choice, and so does E1's drop. The entries before it keep their numbers.)
  pub chosen_number : (v : ℕ) (ls : List ℤ) → unclosed ls ≡ false → (t : Trail) → NoneFailed (variable_value t) ls → NoneForcing (variable_value t) ls
      → (n : ℕ) → LowestUnassigned (variable_value t) v n → step v ls t ≡ Moved (entry (neg_ℤ (pos n)) 1 0 ∷ t)
  pub negated-number : (t : Trail) (k : ℕ) (e : Entry) → FirstIn MarkedOne t k e → undoes t ≡ Moved (entry (neg_ℤ e.literal) 0 0 ∷ drop (suc k) t)
  -- "unused ones 0."
  pub unused_zero : (x : Call) (c : Search) → IsTaken x c → (budget i : ℕ) → (hands x c budget).outcome.third ≤ i
      → get_or (hands x c budget).slices.numbers i 0 ≡ 0
  -- "For each non-zero number the clause holds the entry's literal, and every literal in it that differs from that one is false by earlier entries, after every
  -- step." (`AllExplained` says it, and that the mark is not 1; `next` makes its first step by a drop.)
  pub after_steps : (c : Search) → IsTaken Searching c → (n : ℕ) (u : Trail) → Leads c.variables c.list (begins c) n u → AllExplained c.list u
  pub after-drop : (c : Search) → IsTaken Following c → (t : Trail) → Undoes (begins c) (Moved t)
      → (n : ℕ) (u : Trail) → Leads c.variables c.list t n u → AllExplained c.list u
  pub when_left : (x : Call) (c : Search) → IsTaken x c → (budget : ℕ) → AllExplained c.list (ends_at (hands x c budget))
  -- "A search refuses slices whose used entries break this or have a non-zero number beside a mark 1"
  pub refuses : (v : ℕ) (ls : List ℤ) → unclosed ls ≡ false → (s : Slices) (used i : ℕ) → wrong_numbers v ls s used ≡ Some i ↔ NumbersFault v ls s used i
  -- (So a search takes what 17, 16 and 18 do not refuse exactly if there are V numbers and each used entry keeps to it.)
  pub takes : (c : Search) → IsTaken Searching c ↔ (NoneBefore22 c × (length c.slices.numbers ≡ c.variables) × AllExplained c.list (begins c))
  -- "(numbers at unused entries aren't looked at on the way in),"
  -- (With other numbers there a call tells the same, and, where it is taken, leaves the same.)
  pub unused_unread : (c : Search) (ns : List ℕ) → length ns ≡ length c.slices.numbers
      → ((i : ℕ) → i < c.used → get_or ns i 0 ≡ get_or c.slices.numbers i 0)
      → (x : Call) (budget : ℕ) → ((hands x (renumbered c ns) budget).outcome ≡ (hands x c budget).outcome)
      × (IsTaken x c → hands x (renumbered c ns) budget ≡ hands x c budget)
  -- "so trails now mean all three slices."
  -- (What any call leaves is taken again, with all three; and what was said before is said of trails in three slices.)
  pub taken_again : (x : Call) (c : Search) → IsTaken x c → (budget : ℕ) → IsTaken Searching (resumed c (hands x c budget))
  pub earlier : EarlierTrails
  -- "Errors: 22, third slice not V long (beside it 0) or breaking this (the first entry), after 18 and before 20."
  pub search_rows : (c : Search) (budget : ℕ)
      → ByRows (17 ∷ 16 ∷ 18 ∷ 22 ∷ []) (rows_of c Searching) (by_search c budget).outcome ((by_search c budget).slices ≡ c.slices)
  pub next_rows : (c : Search) (budget : ℕ)
      → ByRows (17 ∷ 16 ∷ 18 ∷ 22 ∷ 20 ∷ []) (rows_of c Following) (by_next c budget).outcome ((by_next c budget).slices ≡ c.slices)
  -- (Calls, computed: all that they hand out.)
  pub samples : All (λ (c : NumberCase). called c ≡ c) number_cases
