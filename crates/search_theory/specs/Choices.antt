-- What a step chooses, in the words of document 01 and, where several clauses force a literal, of document 02's E9: w has the values of the variables, and k
-- is the index of a clause among the clauses of the list.
use Rattle.std.specs.Prelude.{ℕ, ◌≤◌, ◌<◌, ℤ, nat_abs, ◌≡◌, List}
use Rattle.answers.specs.First.{FirstIn, NoneIn}
use Rattle.answers.specs.Lists.{All, Some, ◌∈◌}
use Rattle.cnf.specs.Clauses.{split}
use Rattle.search.specs.Trail.{True, False, Unassigned, Values, literal_value}

module _ (w : Values) where
  -- a clause whose literals are all false
  abbrev pub AllFalse : List ℤ → Type 0
  AllFalse c = All (λ k. literal_value w k ≡ False) c

  -- a clause without a true literal whose unassigned literals are all one literal, l
  pub record Forces (l : ℤ) (c : List ℤ) : Type 0 where
    pub none_true : NoneIn (λ k. literal_value w k ≡ True) c
    pub holds : l ∈ c
    pub unassigned : literal_value w l ≡ Unassigned
    pub all_one : All (λ k. literal_value w k ≡ Unassigned → k ≡ l) c

  -- a clause that forces some literal
  abbrev pub ForcesOne : List ℤ → Type 0
  ForcesOne c = (l : ℤ) × Forces l c

  -- a clause that forces a variable, to one value or the other
  abbrev pub ForcesVariable : ℕ → List ℤ → Type 0
  ForcesVariable n c = (l : ℤ) × Forces l c × (nat_abs l ≡ n)

  module _ (ls : List ℤ) where
    -- a failed clause, that is, the first clause in list order whose literals are all false
    pub record FailedClause (k : ℕ) : Type 0 where
      pub clause : List ℤ
      pub first : FirstIn AllFalse (split ls) k clause

    abbrev pub NoneFailed : Type 0
    NoneFailed = NoneIn AllFalse (split ls)

    -- the lowest variable that some clause forces
    pub record LowestForced (n : ℕ) : Type 0 where
      pub forced : Some (ForcesVariable n) (split ls)
      pub lower : (m : ℕ) → m < n → NoneIn (ForcesVariable m) (split ls)

    -- where several clauses force a literal, the lowest variable; if several force that variable, the earliest clause; and l, the literal that it forces
    pub record ForcingClause (k : ℕ) (l : ℤ) : Type 0 where
      pub clause : List ℤ
      pub lowest : LowestForced (nat_abs l)
      pub first : FirstIn (ForcesVariable (nat_abs l)) (split ls) k clause
      pub forces : Forces l clause

    abbrev pub NoneForcing : Type 0
    NoneForcing = NoneIn ForcesOne (split ls)

  -- the lowest unassigned variable, of those from 1 to V
  pub record LowestUnassigned (v n : ℕ) : Type 0 where
    pub from_1 : 1 ≤ n
    pub to_V : n ≤ v
    pub unassigned : w n ≡ Unassigned
    pub lower : (m : ℕ) → 1 ≤ m → m < n → w m ≡ Unassigned → ⊥

  abbrev pub NoneUnassigned : ℕ → Type 0
  NoneUnassigned v = (n : ℕ) → 1 ≤ n → n ≤ v → w n ≡ Unassigned → ⊥
