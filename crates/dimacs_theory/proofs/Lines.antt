-- The lines of a list are those of its clauses. Assumes nothing.
use lib.IntN.{ℤ, pos, negsuc}
use Prim.Native.Nat.{zero, suc}
use mathlib.Core.Path.{◌≡◌, refl, sym, ◌∙◌, ap}
use mathlib.Core.Bool.{Bool, true, false}
use mathlib.Core.List.{List, [], ◌∷◌, ◌++◌, append_assoc}
use Rattle.answers.specs.Lists.{each}
use Rattle.answers.proofs.Bools.{clash}
use Rattle.text.specs.Decimal.{line_feed}
use Rattle.cnf.specs.Literals.{closes, unclosed}
use Rattle.cnf.specs.Clauses.{split_step, split}
use Rattle.cnf.proofs.Lists.{closed_rest}
use Rattle.dimacs.specs.Text.{signed, lines}
use Rattle.dimacs_theory.specs.Lines.{clause_line}

-- a list that is not empty has a first clause
first_clause : (l : ℤ) (ls : List ℤ) → (c : List ℤ) × (cs : List (List ℤ)) × (split (l ∷ ls) ≡ c ∷ cs)
unfolding split
first_clause l ls = by (closes l) (split ls)
  where
    by : (t : Bool) (cs : List (List ℤ)) → (d : List ℤ) × (ds : List (List ℤ)) × (split_step t l cs ≡ d ∷ ds)
    by true cs = ([], cs, refl)
    by false [] = (l ∷ [], [], refl)
    by false (c ∷ cs) = (l ∷ c, cs, refl)

-- a literal, and the rest of its clause
literal_line : (l : ℤ) (ls : List ℤ) → closes l ≡ false → unclosed (l ∷ ls) ≡ false → (unclosed ls ≡ false → lines ls ≡ each (split ls) clause_line)
    → lines (l ∷ ls) ≡ each (split (l ∷ ls)) clause_line
unfolding lines split
literal_line l [] z h go = clash (rw z) h
literal_line l (m ∷ ls) z h go =
    let f = first_clause m ls in
    let rest = rw f.2 at (go (closed_rest l (m ∷ ls) h)) in
    rw (z, f.2, rest) (simp append_assoc)

pub lines-clauses : (ls : List ℤ) → unclosed ls ≡ false → lines ls ≡ each (split ls) clause_line
unfolding lines split
lines-clauses [] h = refl
lines-clauses (pos zero ∷ ls) h =
    ap (λ bs. signed (pos 0) ++ (line_feed ∷ bs)) (lines-clauses ls (closed_rest (pos zero) ls h))
    ∙ sym (append_assoc (signed (pos 0)) (line_feed ∷ []) (each (split ls) clause_line))
lines-clauses (pos (suc n) ∷ ls) h = literal_line (pos (suc n)) ls refl h (lines-clauses ls)
lines-clauses (negsuc n ∷ ls) h = literal_line (negsuc n) ls refl h (lines-clauses ls)
