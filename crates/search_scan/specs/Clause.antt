-- What is asked of the clause at hand, from a place in it on.
use Rattle.std.specs.Prelude.{ℕ, suc, ltb, ℤ, nat_abs, Bool, false, not, ◌&&◌, cond, List, [], ◌∷◌}
use Rattle.cnf.specs.Literals.{closes}
use Rattle.search.specs.Trail.{Values, is_true, literal_value}
use Rattle.search.specs.Step.{every_literal, fails_but}

-- the first literal here has a variable up to `most`, it is not true, and those after it are false, or the same
abbrev pub forced_up_to : Values → ℕ → List ℤ → Bool
forced_up_to w most [] = false
forced_up_to w most (l ∷ ls) = ltb (nat_abs l) (suc most) && (not (is_true (literal_value w l)) && every_literal (fails_but w l) ls)

-- the elements of the clause at hand, with the 0 that closes it (in an accepted list there is one)
unfoldable pub clause_length : List ℤ → ℕ
clause_length [] = 0
clause_length (l ∷ ls) = cond (closes l) 1 (suc (clause_length ls))
