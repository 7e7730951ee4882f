-- Document 02, E2, "Budgets that add up", as one statement, in its order and words; what is in quotation marks is the request's.
-- Two calls hand out the same if they tell the same answer, steps and used count, and leave the same in the lent slices.
use Rattle.std.specs.Prelude.{ℕ, ◌+◌, ◌≤◌, ◌≡◌, List}
use Rattle.search.specs.Run.{Halted}
use Rattle.search.specs.Call.{Search, Searching, Following, IsTaken, by_search, by_next, Says, resumed}
use Rattle.search_theory.specs.Budgets.{in_all, total, in_parts}

pub record RequestE2 : Type 0 where
  -- "Searching with budget a and, if halted, with budget b from there must give the answer, trail and total of steps of one search with a + b (where the sum
  -- fits 64 bits)." (What a halted search leaves is taken again. Nothing is asked of the sum here: a call can get it only if it fits.)
  pub goes_on : (c : Search) → IsTaken Searching c → (a : ℕ) → Says (by_search c a) Halted → IsTaken Searching (resumed c (by_search c a))
  pub adds_up : (c : Search) → IsTaken Searching c → (a : ℕ) → Says (by_search c a) Halted → (b : ℕ)
      → by_search c (a + b) ≡ in_all (by_search c a) (by_search (resumed c (by_search c a)) b)
  -- "A larger budget never alters a "found" or a "none"." (Nor its steps and its slices.)
  pub unaltered : (c : Search) → IsTaken Searching c → (a : ℕ) → (Says (by_search c a) Halted → ⊥) → (b : ℕ) → a ≤ b → by_search c b ≡ by_search c a
  -- The same for `next`, which goes on by the search;
  pub next_goes_on : (c : Search) → IsTaken Following c → (a : ℕ) → 1 ≤ a → Says (by_next c a) Halted → IsTaken Searching (resumed c (by_next c a))
  pub next_adds_up : (c : Search) → IsTaken Following c → (a : ℕ) → 1 ≤ a → Says (by_next c a) Halted → (b : ℕ)
      → by_next c (a + b) ≡ in_all (by_next c a) (by_search (resumed c (by_next c a)) b)
  pub next_unaltered : (c : Search) → IsTaken Following c → (a : ℕ) → (Says (by_next c a) Halted → ⊥) → (b : ℕ) → a ≤ b → by_next c b ≡ by_next c a
  -- but with budget 0 it is called again.
  pub next_called_again : (c : Search) → IsTaken Following c
      → IsTaken Following (resumed c (by_next c 0)) × ((b : ℕ) → by_next (resumed c (by_next c 0)) b ≡ by_next c b)
  -- "Dealing runs in idle slices and we change their size." (Of either call, in any number of parts, the first with budget a.)
  pub in-parts : (c : Search) → IsTaken Searching c → (a : ℕ) (bs : List ℕ) → in_parts Searching c a bs ≡ by_search c (total a bs)
  pub next_in_parts : (c : Search) → IsTaken Following c → (a : ℕ) (bs : List ℕ) → in_parts Following c a bs ≡ by_next c (total a bs)
