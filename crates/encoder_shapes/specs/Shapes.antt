-- Clauses by the numbers of their variables, as they are written, and runs of clauses whose numbers go on by one.
use Rattle.std.specs.Prelude.{ℕ, ◌+◌, ◌-◌, ℤ, pos, neg_ℤ, List, [], ◌∷◌, ◌++◌}
use Rattle.answers.specs.Lists.{up_to, each}

-- minus for "not"
abbrev pub no : ℕ → ℤ
no v = neg_ℤ (pos v)

-- 0 closes a clause
abbrev pub closed : List ℤ → List ℤ
closed ls = ls ++ (pos 0 ∷ [])

-- [a], [−a], [−a −b], [−a b], [a −b], [−a b c], [−a −b c]
abbrev pub unit : ℕ → List ℤ
unit a = closed (pos a ∷ [])

abbrev pub unit_not : ℕ → List ℤ
unit_not a = closed (no a ∷ [])

abbrev pub not_both : ℕ → ℕ → List ℤ
not_both a b = closed (no a ∷ no b ∷ [])

abbrev pub implies : ℕ → ℕ → List ℤ
implies a b = closed (no a ∷ pos b ∷ [])

abbrev pub or_not : ℕ → ℕ → List ℤ
or_not a b = closed (pos a ∷ no b ∷ [])

abbrev pub implies_either : ℕ → ℕ → ℕ → List ℤ
implies_either a b c = closed (no a ∷ pos b ∷ pos c ∷ [])

abbrev pub both_imply : ℕ → ℕ → ℕ → List ℤ
both_imply a b c = closed (no a ∷ no b ∷ pos c ∷ [])

-- n literals from the first on
abbrev pub literals : ℕ → ℕ → List ℤ
literals first n = each (up_to n) (λ k. pos (first + k) ∷ [])

-- [those], [a, those]
abbrev pub at_least_one : ℕ → ℕ → List ℤ
at_least_one first n = closed (literals first n)

abbrev pub or_at_least_one : ℕ → ℕ → ℕ → List ℤ
or_at_least_one a first n = pos a ∷ at_least_one first n

-- a run of n clauses: [−b], [−a −b], [−a b], with b from the first on
abbrev pub each_unit_not : ℕ → ℕ → List ℤ
each_unit_not first n = each (up_to n) (λ k. unit_not (first + k))

abbrev pub each_not_both : ℕ → ℕ → ℕ → List ℤ
each_not_both a first n = each (up_to n) (λ k. not_both a (first + k))

abbrev pub each_implies : ℕ → ℕ → ℕ → List ℤ
each_implies a first n = each (up_to n) (λ k. implies a (first + k))

-- [−a −b c], with b and c from their first on
abbrev pub each_both_imply : ℕ → ℕ → ℕ → ℕ → List ℤ
each_both_imply a b c n = each (up_to n) (λ k. both_imply a (b + k) (c + k))

-- pairs of n numbers from the first on: each with those after it
abbrev pub pairs_with : ℕ → ℕ → ℕ → List ℤ
pairs_with first n k = each_not_both (first + k) (first + k + 1) (n - (k + 1))

abbrev pub at_most_one : ℕ → ℕ → List ℤ
at_most_one first n = each (up_to n) (pairs_with first n)
