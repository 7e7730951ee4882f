-- Laws of codes, of the number of clauses, and of the places where clauses begin. Assumes nothing.
use Prim.Native.Nat.{ℕ, zero, suc, ◌+◌, ◌*◌, ◌-◌, ◌/◌, ◌≤◌, ◌<◌}
use native.Mathlib.Omega.{arith}
use borrow.Author.Tests.{ne_eqb, lt-ltb, le-ltb}
use lib.Dec.{eqb}
use lib.IntN.{ℤ, pos, negsuc, nat_abs}
use lib.ListN.{length, get_or, drop}
use lib.Seq.{take-append_seam, drop-append_seam}
use mathlib.Core.Path.{◌≡◌, refl, sym, ◌∙◌, ap}
use mathlib.Core.Bool.{Bool, true, false, not, cond}
use mathlib.Core.List.{List, [], ◌∷◌, ◌++◌}
use Rattle.answers.specs.Lists.{tally}
use Rattle.answers.proofs.Bools.{clash}
use Rattle.answers.proofs.Lists.{many_parted}
use Rattle.cnf.specs.Literals.{closes, code_of, beyond, unclosed}
use Rattle.cnf.specs.Clauses.{split_step, split, clause_count, place_after}

-- the variable of a code
pub code_variable : (l : ℤ) → code_of l / 2 ≡ nat_abs l
code_variable (pos n) = omega arith
code_variable (negsuc n) = omega arith

-- the code that closes a clause
-- a literal has a variable
pub some_variable : (l : ℤ) → closes l ≡ false → 1 ≤ nat_abs l
some_variable (pos zero) z = clash refl z
some_variable (pos (suc m)) z = omega arith
some_variable (negsuc m) z = omega arith

pub code_closes : (l : ℤ) → closes l ≡ eqb (code_of l) 0
code_closes (pos zero) = refl
code_closes (pos (suc n)) = sym (ne_eqb (suc n * 2) 0 (omega arith))
code_closes (negsuc n) = sym (ne_eqb (suc n * 2 + 1) 0 (omega arith))

-- a literal beyond V, by its code
module _ (v : ℕ) {k : ℕ} (l : ℤ) (read : k ≡ code_of l) where
  pub code_beyond : v < k / 2 → beyond v l ≡ true
  code_beyond h = let e = code_variable l in lt-ltb v (nat_abs l) (omega (arith, ap (λ n. n / 2) read))

  pub code_within : k / 2 ≤ v → beyond v l ≡ false
  code_within h = let e = code_variable l in le-ltb v (nat_abs l) (omega (arith, ap (λ n. n / 2) read))

-- the end of a list, by the code of its last element
pub empty_closed : (ls : List ℤ) → length ls ≡ 0 → false ≡ unclosed ls
empty_closed [] h = refl
empty_closed (l ∷ ls) h = absurd (omega arith)

pub code_unclosed : (ls : List ℤ) {k : ℕ} → k ≡ code_of (get_or ls (length ls - 1) (pos 0)) → not (eqb k 0) ≡ unclosed ls
code_unclosed ls read = ap (λ n. not (eqb n 0)) read ∙ ap not (sym (code_closes (get_or ls (length ls - 1) (pos 0))))

-- the end of a list is the end of its tail
pub unclosed_tail : (l m : ℤ) (ls : List ℤ) → unclosed (l ∷ m ∷ ls) ≡ unclosed (m ∷ ls)
unclosed_tail l m ls =
    let e : suc (suc (length ls)) - 1 ≡ suc (suc (length ls) - 1) = omega arith in
    ap (λ i. not (closes (get_or (l ∷ m ∷ ls) i (pos 0)))) e

pub closed_rest : (l : ℤ) (ls : List ℤ) → unclosed (l ∷ ls) ≡ false → unclosed ls ≡ false
closed_rest l [] h = refl
closed_rest l (m ∷ ls) h = sym (unclosed_tail l m ls) ∙ h

-- the clauses of a list that ends in 0 are as many as it has zeros
pub split_count : (ls : List ℤ) → unclosed ls ≡ false → length (split ls) ≡ clause_count ls
unfolding split
split_count [] h = refl
split_count (pos zero ∷ []) h = refl
split_count (pos (suc n) ∷ []) h = clash refl h
split_count (negsuc n ∷ []) h = clash refl h
split_count (l ∷ m ∷ ls) h = one_more (closes l) (closes m) (split ls) ∙ ap (tally (closes l)) (split_count (m ∷ ls) (sym (unclosed_tail l m ls) ∙ h))
  where
    one_more : (t u : Bool) (cs : List (List ℤ)) → length (split_step t l (split_step u m cs)) ≡ tally t (length (split_step u m cs))
    one_more true u cs = refl
    one_more false true cs = refl
    one_more false false [] = refl
    one_more false false (c ∷ cs) = refl

-- the clauses of two lists, one after the other
pub count_append : (ls ms : List ℤ) → clause_count (ls ++ ms) ≡ clause_count ls + clause_count ms
count_append ls ms = rw (take-append_seam, drop-append_seam) at (many_parted closes (ls ++ ms) (length ls))

-- the place after some clauses
pub place_zero : (ls : List ℤ) → place_after 0 ls ≡ 0
unfolding place_after
place_zero [] = refl
place_zero (l ∷ ls) = refl

-- an element more
pub place-step : (n : ℕ) (l : ℤ) (ls : List ℤ) → (n ≡ 0 → ⊥) → place_after n (l ∷ ls) ≡ suc (place_after (cond (closes l) (n - 1) n) ls)
unfolding place_after
place-step n l ls z = rw (ne_eqb n 0 z)

-- over m clauses, and then over n more
pub place_more : (m n : ℕ) (ls : List ℤ) → place_after m ls + place_after n (drop (place_after m ls) ls) ≡ place_after (m + n) ls
unfolding place_after
place_more m n [] = refl
place_more zero n (l ∷ ls) = let e : 0 + n ≡ n = omega arith in rw (place_zero (l ∷ ls), e) (omega arith)
place_more (suc m) n (l ∷ ls) =
    rw (place-step (suc m) l ls (λ q. omega arith), place-step (suc m + n) l ls (λ q. omega arith))
    (by (closes l) (place_more m n ls) (place_more (suc m) n ls))
  where
    by : (b : Bool) → place_after m ls + place_after n (drop (place_after m ls) ls) ≡ place_after (m + n) ls
        → place_after (suc m) ls + place_after n (drop (place_after (suc m) ls) ls) ≡ place_after (suc m + n) ls
        → suc (place_after (cond b (suc m - 1) (suc m)) ls) + place_after n (drop (place_after (cond b (suc m - 1) (suc m)) ls) ls)
        ≡ suc (place_after (cond b (suc m + n - 1) (suc m + n)) ls)
    by true h k = let e : suc m + n - 1 ≡ m + n = omega arith in let d : suc m - 1 ≡ m = omega arith in rw (e, d) (omega arith)
    by false h k = omega arith
