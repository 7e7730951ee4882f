-- The clauses of a list, and when an assignment satisfies it.
use Rattle.std.specs.Prelude.{ℕ, zero, suc, ◌-◌, eqb, ℤ, pos, negsuc, length, get_or, take, ◌≡◌, Bool, true, false, not, cond, List, [], ◌∷◌}
use Rattle.answers.specs.Lists.{how_many, All, Some}
use Rattle.cnf.specs.Literals.{closes}

-- before the clauses of the rest comes this element: it closes a clause, or it stands first in the next
abbrev pub split_step : Bool → ℤ → List (List ℤ) → List (List ℤ)
split_step true l cs = [] ∷ cs
split_step false l [] = (l ∷ []) ∷ []
split_step false l (c ∷ cs) = (l ∷ c) ∷ cs

-- the clauses of a list, without the zeros that close them
unfoldable pub split : List ℤ → List (List ℤ)
split [] = []
split (l ∷ ls) = split_step (closes l) l (split ls)

-- the number of clauses: each is closed by a 0
abbrev pub clause_count : List ℤ → ℕ
clause_count ls = how_many closes ls

-- the number, from 1, of the clause in which a place is: each clause before it is closed
abbrev pub clause_number : List ℤ → ℕ → ℕ
clause_number ls i = suc (clause_count (take i ls))

-- the place where the clause after the first n begins; the list's length, if there is none
unfoldable pub place_after : ℕ → List ℤ → ℕ
place_after n [] = 0
place_after n (l ∷ ls) =
    let rest : ℕ = place_after (cond (closes l) (n - 1) n) ls in
    cond (eqb n 0) 0 (suc rest)

-- an assignment gives each of V variables 0 or 1, variable 1 first
abbrev pub Assignment : ℕ → List Bool → Type 0
Assignment v a = length a ≡ v

-- the value of a literal
abbrev pub value : List Bool → ℤ → Bool
value a (pos zero) = false
value a (pos (suc n)) = get_or a n false
value a (negsuc n) = not (get_or a n false)

-- it satisfies a list if every clause has a true literal, which an empty clause never has
abbrev pub Satisfies : List Bool → List ℤ → Type 0
Satisfies a ls = All (Some (λ l. value a l ≡ true)) (split ls)
