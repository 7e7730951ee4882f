-- What is true of a grid's variables, clauses and assignments, each result in one statement. The proofs stand in the files beside this one and in
-- `encoder`. Nothing is assumed but what a statement says.
use Prim.Native.Nat.{ℕ, suc, ◌≤◌, ◌<◌}
use native.Mathlib.Omega.{arith}
use lib.Dec.{eqb, ltb}
use lib.ListN.{length, get_or}
use borrow.Author.Tests.{le-ltb, lt-ltb, ltb-true, eqb-true, eq-eqb}
use mathlib.Core.Path.{◌≡◌, refl, sym, ◌∙◌, ap, subst}
use mathlib.Core.Bool.{Bool, true, false}
use mathlib.Core.Logic.{◌↔◌}
use Rattle.std.specs.Prelude.{Option, None, Some}
use Rattle.std.proofs.lemmas.Option.{same_Some}
use Rattle.answers.proofs.Options.{some-none}
use mathlib.Core.List.{List}
use Rattle.answers.specs.First.{first_where, LeastWith}
use Rattle.answers.specs.Lists.{All, ◌∈◌}
use Rattle.answers.proofs.First.{first_with}
use Rattle.rules.specs.declared.Direction.{Direction}
use Rattle.rules.specs.declared.Cell.TheVariants.{Clue as Clued}
use Rattle.rules.specs.Record.{Puzzle, puzzle, grid_cell, grid_of, size, IsAccepted}
use Rattle.rules.specs.Board.{Board, line, clue_in, board, board_of}
use Rattle.rules.specs.Drawing.{blacks_nearest, black_at, SolutionBytes}
use Rattle.rules.proofs.Boards.{Laws, Filled}
use Rattle.rules.proofs.Records.{number_of, puzzle-filled, accepted_laws}
use Rattle.cnf.specs.Literals.{most_variables, too_many_variables, wrong_list}
use Rattle.cnf.specs.Clauses.{clause_count}
use Rattle.encoder.specs.Variables.{T, variable_count}
use Rattle.encoder.specs.Clauses.{clauses, clause_list}
use Rattle.encoder.specs.Decoding.{drawn, numbered, wrong_value, FirstWrongValue, Satisfying, DecodesTo}
use Rattle.encoder.specs.Bounds.{BoundedBoard}
use Rattle.rules_theory.proofs.Clues.{in_clues}
use Rattle.encoder.proofs.Bounds as bounds
use Rattle.encoder.proofs.Sizes as sizes
use Rattle.encoder_theory.specs.Valuations.{valuation}
use Rattle.encoder_theory.proofs.Exactly as exactly
use Rattle.encoder_theory.proofs.Decoder.{decodes, handed}

-- 1. Each assignment that satisfies the grid's clauses decodes to a solution.
pub decodes_to_solution : (s : List ℕ) → IsAccepted s → (a : List Bool) → Satisfying s a → (ds : List ℕ) × DecodesTo s a ds × SolutionBytes (board_of s) ds
decodes_to_solution s acc a h =
    let S = exactly.draws_solution (board_of s) (accepted_laws s acc) a h.gives h.satisfies in
    (drawn (board_of s) (valuation (board_of s) a), decodes s acc a h.gives S, S)

-- 2. Each solution comes from exactly one of those assignments. It comes from one ..
pub comes_from_one : (s : List ℕ) → IsAccepted s → (ds : List ℕ) → SolutionBytes (board_of s) ds → (a : List Bool) × Satisfying s a × DecodesTo s a ds
comes_from_one s acc ds S =
    let law = accepted_laws s acc in
    let draws = exactly.the_draws (board_of s) law ds S in
    let long = exactly.the_long (board_of s) law ds S in (
      exactly.the (board_of s) law ds S,
      record { gives = long; satisfies = exactly.the_satisfies (board_of s) law ds S },
      subst (DecodesTo s (exactly.the (board_of s) law ds S)) draws
          (decodes s acc (exactly.the (board_of s) law ds S) long (subst (SolutionBytes (board_of s)) (sym draws) S)),
    )

-- .. and from no other: two of them that decode to the same drawing are the same.
pub comes_from_only_one : (s : List ℕ) → IsAccepted s → (ds : List ℕ) (a c : List Bool) → Satisfying s a → DecodesTo s a ds → Satisfying s c → DecodesTo s c ds
    → a ≡ c
comes_from_only_one s acc ds a c h d k e =
    let law = accepted_laws s acc in
    let p = handed s acc a h.gives d in
    let S : SolutionBytes (board_of s) ds = subst (SolutionBytes (board_of s)) p (exactly.draws_solution (board_of s) law a h.gives h.satisfies) in
    exactly.the_only (board_of s) law ds S a h.gives h.satisfies p
    ∙ sym (exactly.the_only (board_of s) law ds S c k.gives k.satisfies (handed s acc c k.gives e))

-- 3. V is at most 16,777,216 and the list gets no 16 for that V: search and writer never refuse a grid's clauses. First of any bounded board ..
pub never_refused_on : {b : Board} → Laws b → BoundedBoard b
    → (variable_count b ≤ most_variables) × (too_many_variables (variable_count b) ≡ false) × (wrong_list (variable_count b) (clause_list b) ≡ None)
never_refused_on {b} law bounded = let h = bounds.few_variables bounded in (h, le-ltb most_variables (variable_count b) h, bounds.list_not_wrong b law)

-- .. as is that of each grid with sides to 45 and numbers to 44 ..
pub bounded_board : (p : Puzzle) → p.grid.rows ≤ 45 → p.grid.columns ≤ 45 → Filled p → All (λ c. number_of c ≤ 44) p.cells → BoundedBoard (board p)
bounded_board = sizes.bounded_board

-- .. and so of an accepted record.
pub never_refused : (s : List ℕ) → IsAccepted s
    → (variable_count (board_of s) ≤ most_variables) × (too_many_variables (variable_count (board_of s)) ≡ false)
    × (wrong_list (variable_count (board_of s)) (clause_list (board_of s)) ≡ None)
never_refused s acc = never_refused_on (accepted_laws s acc) (sizes.accepted_bounded s acc)

-- The number of clauses that the encoder tells is the number of those that its list has.
pub clause-count : (b : Board) → clause_count (clause_list b) ≡ length (clauses b)
clause-count = bounds.clause-count

-- 4. T and the judge's count of a line, side by side (document 02, E3). Of an assignment that satisfies the clauses and the drawing that it decodes to, and a
-- clue in cell x with its direction and number: T(j,t) holds exactly if the judge, counting its line from the far end, has t black cells after j cells.
pub side_by_side : (s : List ℕ) → IsAccepted s → (a : List Bool) → Satisfying s a → (ds : List ℕ) → DecodesTo s a ds
    → (x : ℕ) (d : Direction) (n : ℕ) → x < size (grid_of s) → grid_cell s x ≡ Clued d n → (j t : ℕ)
    → j ≤ length (line (puzzle (grid_of s) s) d x) → t ≤ n
    → valuation (board_of s) a (T x j t) ≡ true ↔ blacks_nearest (black_at ds) (line (puzzle (grid_of s) s) d x) j ≡ t
side_by_side s acc a h ds dec x d n inside is j t l k = (λ p. eqb-true _ t (sym e ∙ p), λ p. e ∙ eq-eqb _ t p)
  where
    clue : clue_in (puzzle (grid_of s) s) x d n ∈ (board_of s).clues
    clue =
        let f = puzzle-filled (grid_of s) s in
        in_clues (puzzle (grid_of s) s) _ (record { direction = d; within = omega arith; read = is; along = refl })

    e : valuation (board_of s) a (T x j t) ≡ eqb (blacks_nearest (black_at ds) (line (puzzle (grid_of s) s) d x) j) t
    e =
        exactly.draws_counts (board_of s) (accepted_laws s acc) a h.gives h.satisfies _ clue j t l k
        ∙ ap (λ ds. eqb (blacks_nearest (black_at ds) (line (puzzle (grid_of s) s) d x) j) t) (handed s acc a h.gives dec)

-- What stands beside 9: the number of the first variable whose value is not 0 or 1.
pub value-place : (values : List ℕ) (n : ℕ) → wrong_value values ≡ Some n ↔ FirstWrongValue values n
value-place values n = (to (first_where test (length values)) refl, of)
  where
    test : ℕ → Bool
    test i = ltb 1 (get_or values i 0)

    place : (i : ℕ) → first_where test (length values) ≡ Some i ↔ LeastWith (λ k. 1 < get_or values k 0) (length values) i
    place = first_with test _ (length values) (λ k h. (ltb-true 1 (get_or values k 0), lt-ltb 1 (get_or values k 0)))

    to : (o : Option ℕ) → first_where test (length values) ≡ o → numbered o ≡ Some n → FirstWrongValue values n
    to None e h = absurd (some-none n (sym h))
    to (Some i) e h = record { index = i; number = sym (same_Some (suc i) n h); first = (place i).0 e }

    of : FirstWrongValue values n → wrong_value values ≡ Some n
    of w = ap numbered ((place w.index).1 w.first) ∙ ap Some (sym w.number)
