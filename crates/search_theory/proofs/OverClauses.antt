-- What is found at the clauses of a list, in the list as it stands: literals, and a 0 after each clause. Assumes nothing.
use Prim.Native.Nat.{ℕ, suc}
use native.Mathlib.Numerals.{add-one}
use lib.IntN.{ℤ}
use lib.ListN.{length, get_or, drop}
use lib.Seq.{drop-drop}
use borrow.Author.Tests.{not-false}
use mathlib.Core.Path.{◌≡◌, refl, sym, ◌∙◌, ap, subst}
use mathlib.Core.Bool.{Bool, true, false, ◌&&◌, ◌||◌, cond}
use mathlib.Core.Logic.{inl, inr}
use Rattle.std.specs.Prelude.{Option, None as none}
use mathlib.Core.List.{List, [], ◌∷◌}
use Rattle.answers.specs.Lists.{All, Some}
use Rattle.cnf.specs.Literals.{closes, unclosed}
use Rattle.cnf.specs.Clauses.{split_step, split, clause_count}
use Rattle.cnf.proofs.Lists.{closed_rest, split_count}
use Rattle.search.specs.Step.{every_literal, over_clauses}

-- the first clause of a list, with what holds of it
pub record Begins (P : List ℤ → Type 0) (ls : List ℤ) : Type 0 where
  pub clause : List ℤ
  pub others : List (List ℤ)
  pub splits : split ls ≡ clause ∷ others
  pub holds : P clause

-- it is the first of its clauses
pub begins_first : {P : List ℤ → Type 0} {ls : List ℤ} → Begins P ls → P (get_or (split ls) 0 [])
begins_first {P} b = subst P (ap (λ cs. get_or cs 0 []) (sym b.splits)) b.holds

pub begins-closed : {P : List ℤ → Type 0} (l : ℤ) (ls : List ℤ) → closes l ≡ true → P [] → Begins P (l ∷ ls)
unfolding split
begins-closed l ls z h = record { clause = []; others = split ls; splits = rw z; holds = h }

pub begins_same : {P Q : List ℤ → Type 0} {ls : List ℤ} → ((c : List ℤ) → P c → Q c) → Begins P ls → Begins Q ls
begins_same f b = record { clause = b.clause; others = b.others; splits = b.splits; holds = f b.clause b.holds }

-- one literal before it
module _ {P Q : List ℤ → Type 0} (l : ℤ) (ls : List ℤ) (z : closes l ≡ false) (more : (c : List ℤ) → P c → Q (l ∷ c)) where
  pub begins_more : Begins P ls → Begins Q (l ∷ ls)
  unfolding split
  begins_more b = record { clause = l ∷ b.clause; others = b.others; splits = rw (z, b.splits); holds = more b.clause b.holds }

-- whether the literals of a clause all pass a test
abbrev pub Tested : (ℤ → Bool) → Bool → List ℤ → Type 0
Tested p true c = All (λ l. p l ≡ true) c
Tested p false c = Some (λ l. p l ≡ false) c

-- the literals up to the 0 are the first clause
pub every : (p : ℤ → Bool) (l : ℤ) (ls : List ℤ) → unclosed (l ∷ ls) ≡ false → Begins (Tested p (every_literal p (l ∷ ls))) (l ∷ ls)
unfolding every_literal
every p l [] u = let z = not-false (closes l) u in rw z (begins-closed l [] z tt)
every p l (m ∷ ls) u = by (closes l) refl (p l) refl (every_literal p (m ∷ ls)) (every p m ls (closed_rest l (m ∷ ls) u))
  where
    by : (z : Bool) → closes l ≡ z → (t : Bool) → p l ≡ t → (rest : Bool) → Begins (Tested p rest) (m ∷ ls)
        → Begins (Tested p (z || (t && rest))) (l ∷ m ∷ ls)
    by true q t r rest go = begins-closed l (m ∷ ls) q tt
    by false q true r true go = begins_more l (m ∷ ls) q (λ c k. (r, k)) go
    by false q true r false go = begins_more l (m ∷ ls) q (λ c k. inr k) go
    by false q false r rest go = begins_more l (m ∷ ls) q (λ c k. inl r) go

-- the clauses that begin in a list: its first one does, or is the rest of one that began before
abbrev pub beginning : Bool → List ℤ → List (List ℤ)
beginning true ls = split ls
beginning false ls = drop 1 (split ls)

pub beginning_rest : (l : ℤ) (ls : List ℤ) → drop 1 (split (l ∷ ls)) ≡ beginning (closes l) ls
unfolding split
beginning_rest l ls = by (closes l) (split ls) refl
  where
    by : (z : Bool) (cs : List (List ℤ)) → split ls ≡ cs → drop 1 (split_step z l cs) ≡ beginning z ls
    by true cs e = sym e
    by false [] e = rw e
    by false (c ∷ cs) e = rw e

-- a list that is the end of another, less its first element
pub tail_drop : (whole : List ℤ) (i : ℕ) (l : ℤ) (ls : List ℤ) → (l ∷ ls) ≡ drop i whole → ls ≡ drop (suc i) whole
tail_drop whole i l ls e = ap (drop 1) e ∙ drop-drop 1 i whole ∙ ap (λ k. drop k whole) (add-one i)

-- what holds of what is found at a clause, given how many clauses there are from it on, and of what is found at the clauses of a list
module _ (join : Option ℕ → Option ℕ → Option ℕ) (look : ℕ → List ℤ → Option ℕ) (whole : List ℤ)
    (At : Option ℕ → ℕ → List ℤ → Type 0) (Over : Option ℕ → List (List ℤ) → Type 0) (nothing : Over none [])
    (joins : (o rest : Option ℕ) (c : List ℤ) (cs : List (List ℤ)) → At o (length (c ∷ cs)) c → Over rest cs → Over (join o rest) (c ∷ cs))
    (looks : (i : ℕ) (l : ℤ) (ls : List ℤ) → unclosed (l ∷ ls) ≡ false → (l ∷ ls) ≡ drop i whole
    → Begins (At (look i (l ∷ ls)) (clause_count (l ∷ ls))) (l ∷ ls)) where
  pub over-clauses : (b : Bool) (i : ℕ) (ls : List ℤ) → unclosed ls ≡ false → ls ≡ drop i whole → Over (over_clauses join look b i ls) (beginning b ls)
  unfolding over_clauses split
  over-clauses true i [] u e = nothing
  over-clauses false i [] u e = nothing
  over-clauses b i (l ∷ ls) u e =
      by b (look i (l ∷ ls)) (looks i l ls u e) (over_clauses join look (closes l) (suc i) ls)
      (rw (beginning_rest l ls) (over-clauses (closes l) (suc i) ls (closed_rest l ls u) (tail_drop whole i l ls e)))
    where
      by : (b : Bool) (o : Option ℕ) → Begins (At o (clause_count (l ∷ ls))) (l ∷ ls) → (rest : Option ℕ) → Over rest (drop 1 (split (l ∷ ls)))
          → Over (cond b (join o rest) rest) (beginning b (l ∷ ls))
      by true o f rest go =
          let many : clause_count (l ∷ ls) ≡ length (f.clause ∷ f.others) = sym (split_count (l ∷ ls) u) ∙ ap length f.splits in
          rw f.splits (joins o rest f.clause f.others (subst (λ n. At o n f.clause) many f.holds) (rw f.splits at go))
      by false o f rest go = go
