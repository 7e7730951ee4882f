-- Over any board with the laws: an assignment that satisfies the clause list draws a solution, and each solution is drawn by exactly one of them.
-- Assumes nothing.
use Prim.Native.Nat.{ℕ, ◌≤◌}
use lib.Dec.{eqb}
use lib.ListN.{length, length-map}
use mathlib.Core.Path.{◌≡◌, refl, sym, ◌∙◌, ap, fun_ext}
use mathlib.Core.Bool.{Bool, true, false}
use mathlib.Core.List.{List, map}
use Rattle.answers.specs.Lists.{◌∈◌}
use Rattle.answers.proofs.Bools.{clash, off, same_tests}
use Rattle.rules.specs.declared.Direction.{Direction}
use Rattle.rules.specs.Board.{Clue, Board}
use Rattle.rules.specs.Drawing.{Drawing, blacks_nearest, black_at, drawing_at, SolutionBytes}
use Rattle.rules.proofs.Boards.{Laws}
use Rattle.cnf.specs.Clauses.{Assignment, Satisfies}
use Rattle.encoder.specs.Variables.{Variable, Z, E, T, variables, variable_count}
use Rattle.encoder.specs.Clauses.{clauses, clause_list}
use Rattle.encoder.specs.Decoding.{drawn_link, drawn}
use Rattle.encoder.proofs.Known.{Known, of_variables, in_variables}
use Rattle.encoder_theory.specs.Valuations.{Holds, valuation}
use Rattle.encoder_theory.proofs.Valuations.{satisfies, valuation_of, same_assignment, satisfied, Proper, proper}
use Rattle.encoder_theory.proofs.Oriented.{link_of}
use Rattle.encoder_theory.proofs.Read.{of_white}
use Rattle.encoder_theory.proofs.Sound.{drawing_of, counted, sound}
use Rattle.encoder_theory.proofs.DrawnValues.{told, told_sent, told_drawn, settled}
use Rattle.encoder_theory.proofs.Complete.{complete}
use Rattle.encoder_theory.proofs.Bytes.{bytes_for, drawing_shown, solution_bytes, bytes_back}

module _ (b : Board) (law : Laws b) where
  pub draws_solution : (a : List Bool) → Assignment (variable_count b) a → Satisfies a (clause_list b) → SolutionBytes b (drawn b (valuation b a))
  draws_solution a e h = solution_bytes b (drawing_of b (valuation b a)) law (sound b law (valuation b a) (proper b a e) ((satisfies b a).0 h))

  -- that drawing's bytes show what its values say
  draws_shown : (a : List Bool) → Assignment (variable_count b) a → Satisfies a (clause_list b)
      → drawing_at (drawn b (valuation b a)) ≡ drawing_of b (valuation b a)
  draws_shown a e h = drawing_shown b (drawing_of b (valuation b a)) law (sound b law (valuation b a) (proper b a e) ((satisfies b a).0 h))

  -- a cell is black if its Z is true
  pub draws_black : (a : List Bool) → Assignment (variable_count b) a → Satisfies a (clause_list b) → (x : ℕ)
      → black_at (drawn b (valuation b a)) x ≡ valuation b a (Z x)
  draws_black a e h x = ap (λ (D : Drawing). D.black x) (draws_shown a e h)

  -- of that drawing's bytes, T(j,t) of a clue tells whether t of the j cells of its line nearest its far end are black
  pub draws_counts : (a : List Bool) → Assignment (variable_count b) a → Satisfies a (clause_list b) → (c : Clue) → c ∈ b.clues → (j t : ℕ)
      → j ≤ length c.line → t ≤ c.number
      → valuation b a (T c.cell j t) ≡ eqb (blacks_nearest (black_at (drawn b (valuation b a))) c.line j) t
  draws_counts a e h c m j t l k =
      counted b law (valuation b a) (proper b a e) ((satisfies b a).0 h) c m j t l k
      ∙ ap (λ (D : Drawing). eqb (blacks_nearest D.black c.line j) t) (sym (draws_shown a e h))

  module _ (ds : List ℕ) (S : SolutionBytes b ds) where
    abbrev D : Drawing
    D = drawing_at ds

    abbrev w : Variable → Bool
    w = told b law D S.solution

    -- the assignment that the solution tells
    abbrev pub the : List Bool
    the = map (told b law (drawing_at ds) S.solution) (variables b)

    pub the_long : Assignment (variable_count b) the
    the_long = length-map (variables b) w

    pub the_satisfies : Satisfies the (clause_list b)
    the_satisfies = satisfied b law w (complete b law D S.solution)

    reads : (v : Variable) → Known b v → valuation b the v ≡ w v
    reads v k = valuation_of b w v (in_variables b law v k)

    the_black : (x : ℕ) → valuation b the (Z x) ≡ D.black x
    the_black x = by (b.is_open x) refl
      where
        by : (t : Bool) → b.is_open x ≡ t → valuation b the (Z x) ≡ D.black x
        by true e = reads (Z x) e
        by false e =
            off (valuation b the (Z x)) (λ h. clash (proper b the the_long (Z x) h) e) ∙ sym (off (D.black x) (λ h. clash (S.solution.only_open x h) e))

    the_way : (x : ℕ) (d : Direction) → valuation b the (E x d) ≡ w (E x d)
    the_way x d = same_tests (valuation b the (E x d)) (w (E x d)) (λ h. sym (reads (E x d) (proper b the the_long (E x d) h)) ∙ h) back
      where
        back : w (E x d) ≡ true → valuation b the (E x d) ≡ true
        back h =
            let (y, e, p, q) = (told_sent b law D S.solution).oriented.leads x d h in
            reads (E x d) ((of_white b D.black x p).0, (y, e, (of_white b D.black y q).0)) ∙ h

    the_link : (x : ℕ) (d : Direction) → drawn_link b (valuation b the) x d ≡ D.link x d
    the_link x d = ap (λ (g : ℕ → Direction → Bool). link_of b.next g x d) (fun_ext (λ x. fun_ext (the_way x))) ∙ sym (told_drawn b law D S.solution x d)

    pub the_draws : drawn b (valuation b the) ≡ ds
    the_draws = ap (bytes_for b) (λ t. record { black = fun_ext the_black t; link = fun_ext (λ x. fun_ext (the_link x)) t }) ∙ bytes_back b ds S

    pub the_only : (a : List Bool) → Assignment (variable_count b) a → Satisfies a (clause_list b) → drawn b (valuation b a) ≡ ds → a ≡ the
    the_only a e h q =
        same_assignment b law a the e the_long
        (λ v m.
        settled b law D S.solution u p k (λ x. ap (λ (d : Drawing). d.black x) (sym same)) (λ x d. ap (λ (z : Drawing). z.link x d) same) v
        (of_variables b v m)
        ∙ sym (valuation_of b w v m))
      where
        u : Variable → Bool
        u = valuation b a

        p : Proper b (valuation b a)
        p = proper b a e

        k : Holds (valuation b a) (clauses b)
        k = (satisfies b a).0 h

        -- the drawing that the bytes are is the one that the assignment gives
        same : drawing_at ds ≡ drawing_of b (valuation b a)
        same = ap drawing_at (sym q) ∙ draws_shown a e h
