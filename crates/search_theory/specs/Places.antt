-- The places beside 16 and 18 of document 01's table, in its words: what is wrong with a list or with a used entry, and where.
use Rattle.std.specs.Prelude.{ℕ, ◌<◌, ℤ, pos, nat_abs, length, get_or, ◌≡◌, List, [], ◌∷◌, ◌++◌}
use Rattle.answers.specs.First.{LeastWith, NoneBelow}
use Rattle.search.specs.Trail.{Slices, entry_at}

module _ (v : ℕ) (ls : List ℤ) where
  -- literal beyond V
  abbrev pub BeyondAt : ℕ → Type 0
  BeyondAt i = v < nat_abs (get_or ls i (pos 0))

  -- "literal beyond V, or list non-empty and not ending in 0", with "first such index, else list length"
  pub data ListFault : ℕ → Type 0 where
    literal_beyond : {i : ℕ} → LeastWith BeyondAt (length ls) i → ListFault i
    not_ending : NoneBelow BeyondAt (length ls) → (ls ≡ [] → ⊥) → ((front : List ℤ) → ls ≡ front ++ (pos 0 ∷ []) → ⊥) → ListFault (length ls)

-- "used entry 0, beyond V, on the variable of an earlier used entry, or with a mark not 0 or 1": the entry at index i
pub data EntryFault (v : ℕ) (s : Slices) (i : ℕ) : Type 0 where
  entry_0 : (entry_at s i).literal ≡ pos 0 → EntryFault v s i
  entry-beyond : v < nat_abs (entry_at s i).literal → EntryFault v s i
  entry_again : (j : ℕ) → j < i → nat_abs (entry_at s j).literal ≡ nat_abs (entry_at s i).literal → EntryFault v s i
  entry_mark : ((entry_at s i).mark ≡ 0 → ⊥) → ((entry_at s i).mark ≡ 1 → ⊥) → EntryFault v s i
