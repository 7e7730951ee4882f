-- What stands beside 12 and 15: the computed places against those in document 01's words. Assumes nothing.
use Prim.Native.Nat.{ℕ, ◌<◌}
use native.Mathlib.Omega.{arith}
use lib.Dec.{eqb}
use borrow.Author.Tests.{eqb-true, eqb-false, eq-eqb, ne_eqb}
use mathlib.Core.Path.{◌≡◌, refl, sym, ◌∙◌, ap, subst}
use mathlib.Core.Bool.{Bool, true, false, not}
use mathlib.Core.Logic.{◌⊎◌, inl, inr, ◌↔◌}
use Rattle.std.specs.Prelude.{Option, None, Some}
use Rattle.std.proofs.lemmas.Option.{same_Some}
use Rattle.answers.proofs.Options.{some-none}
use mathlib.Core.List.Memᴰ
use mathlib.Core.List.{List, [], ◌∷◌}
use Rattle.answers.specs.First.{first_where, Least}
use Rattle.answers.specs.Lists.{how_many, ◌∈◌}
use Rattle.answers.proofs.First.{first_none, none_first, first_some, some_first}
use Rattle.answers.proofs.Bools.{clash, off, true_not, and_both, both_and}
use Rattle.rules.specs.Board.{Clue, Board}
use Rattle.rules.specs.Drawing.{Links, link_at, black_at}
use Rattle.rules.specs.Walk.{loop_cells, among}
use Rattle.rules.specs.Judge.{white_at, off_loop_at, unless_met, unmet_clue, from_first, clue_not_met, not_one_loop}
use Rattle.rules.proofs.Boards.{InOrder, Laws}
use Rattle.rules_theory.specs.Places.{Met, FirstUnmet, Unreached, FirstUnreached, no-white, off_loop}
use Rattle.rules_theory.proofs.Whole.{reaches}

module _ (ds : List ℕ) where
  abbrev unmet : List Clue → Option ℕ
  unmet cs = unmet_clue (black_at ds) cs

  abbrev test : Clue → Bool
  test c = eqb (how_many (black_at ds) c.line) c.number

  -- 12: clues in cell order, so that the first in the list is the one with the lowest cell
  first_unmet : (cs : List Clue) → InOrder cs → (x : ℕ) → unmet cs ≡ Some x → FirstUnmet cs ds x
  first_unmet [] o x e = absurd (some-none x (sym e))
  first_unmet (c ∷ cs) (h, o) x e = by (test c) refl e (first_unmet cs o x)
    where
      by : (t : Bool) → test c ≡ t → unless_met t c.cell (unmet cs) ≡ Some x → (unmet cs ≡ Some x → FirstUnmet cs ds x) → FirstUnmet (c ∷ cs) ds x
      by true q e go =
          let u = go e in
          record {
            clue = u.clue;
            among_clues = Memᴰ.tail u.among_clues;
            in_cell = u.in_cell;
            unmet = u.unmet;
            first = λ k m l. at k l (Memᴰ.cases_cons m);
          }
        where
          at : (k : Clue) → k.cell < x → (k ≡ c) ⊎ (k ∈ cs) → Met ds k
          at k l (inl p) = subst (Met ds) (sym p) (eqb-true _ _ q)
          at k l (inr m) = (go e).first k m l
      by false q e go =
          let here : c.cell ≡ x = same_Some c.cell x e in
          record {
            clue = c;
            among_clues = Memᴰ.head refl;
            in_cell = here;
            unmet = eqb-false _ _ q;
            first = λ k m l. absurd (low k (rw (← here) at l) (Memᴰ.cases_cons m));
          }
        where
          low : (k : Clue) → k.cell < c.cell → (k ≡ c) ⊎ (k ∈ cs) → ⊥
          low k l (inl p) = let q : k.cell ≡ c.cell = ap (λ (c : Clue). c.cell) p in omega arith
          low k l (inr m) = let q = h k m in omega arith

  unmet_first : (cs : List Clue) → InOrder cs → (x : ℕ) → FirstUnmet cs ds x → unmet cs ≡ Some x
  unmet_first [] o x u = absurd (Memᴰ.not-nil u.among_clues)
  unmet_first (c ∷ cs) (h, o) x u = by (Memᴰ.cases_cons u.among_clues) (unmet_first cs o x)
    where
      by : (u.clue ≡ c) ⊎ (u.clue ∈ cs) → (FirstUnmet cs ds x → unmet cs ≡ Some x) → unless_met (test c) c.cell (unmet cs) ≡ Some x
      by (inl p) go =
          ap (λ t. unless_met t c.cell (unmet cs)) (ne_eqb _ _ (subst (λ (c : Clue). Met ds c → ⊥) p u.unmet))
          ∙ ap Some (ap (λ (c : Clue). c.cell) (sym p) ∙ u.in_cell)
      by (inr m) go =
          ap (λ t. unless_met t c.cell (unmet cs)) (eq-eqb _ _ (u.first c (Memᴰ.head refl) (rw (← u.in_cell) (h u.clue m))))
          ∙ go (record {
            clue = u.clue;
            among_clues = m;
            in_cell = u.in_cell;
            unmet = u.unmet;
            first = λ k n l. u.first k (Memᴰ.tail n) l;
          })

pub unmet_place : (b : Board) → InOrder b.clues → (ds : List ℕ) (x : ℕ) → clue_not_met b ds ≡ Some x ↔ FirstUnmet b.clues ds x
unmet_place b o ds x = (first_unmet ds b.clues o x, unmet_first ds b.clues o x)

-- 15: the walk's cells are those to which links lead
module _ {b : Board} (law : Laws b) (ds : List ℕ) (L : Links b.size b.next (white_at b ds) (link_at ds)) where
  module _ {s : ℕ} (F : Least (white_at b ds) b.size s) where
    abbrev passed : ℕ → Bool
    passed y = among y (loop_cells b.size b.next (link_at ds) s)

    unreached : (x : ℕ) → x < b.size → off_loop_at b ds s x ≡ true → Unreached b ds s x
    unreached x l h =
        let w = and_both (white_at b ds x) (not (passed x)) h in
        record { below = l; is_white = w.0; unreached = λ r. clash w.1 (true_not _ ((reaches law.wired L F x).0 r)) }

    off-loop-at : (x : ℕ) → Unreached b ds s x → off_loop_at b ds s x ≡ true
    off-loop-at x u = both_and _ _ u.is_white (ap not (off (passed x) (λ p. u.unreached ((reaches law.wired L F x).1 p))))

  abbrev from : Option ℕ → Option ℕ
  from o = from_first o (λ s. first_where (off_loop_at b ds s) b.size)

  pub unreached_place : (x : ℕ) → not_one_loop b ds ≡ Some x ↔ FirstUnreached b ds x
  unreached_place x = (by (first_where (white_at b ds) b.size) refl, back)
    where
      by : (o : Option ℕ) → first_where (white_at b ds) b.size ≡ o → from o ≡ Some x → FirstUnreached b ds x
      by None e h = no-white (first_none _ _ e) (sym (same_Some 0 x h))
      by (Some s) e h =
          let F = first_some (white_at b ds) b.size s e in
          let l = first_some (off_loop_at b ds s) b.size x h in
          off_loop F (unreached F x l.below l.holds) (λ y m u. clash (off-loop-at F y u) (l.first y m))

      back : FirstUnreached b ds x → not_one_loop b ds ≡ Some x
      back (no-white n e) = ap from (none_first (white_at b ds) b.size n) ∙ ap Some (sym e)
      back (off_loop {s = s} F u first) =
          ap from (some_first (white_at b ds) b.size F)
          ∙ some_first (off_loop_at b ds s) b.size (record {
            below = u.below;
            holds = off-loop-at F x u;
            first = λ y m. off _ (λ h. let l = u.below in first y m (unreached F y (omega arith) h));
          })
