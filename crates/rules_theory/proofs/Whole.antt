-- The walk from the first white cell passes every cell to which links lead; so in a solution every white cell. Assumes nothing.
use Prim.Native.Nat.{ℕ, zero, suc, ◌<◌}
use native.Mathlib.Omega.{arith}
use lib.ListN.{length, get_or}
use mathlib.Core.Path.{◌≡◌, refl, sym, ◌∙◌, ap, subst}
use mathlib.Core.Bool.{Bool, true, false}
use Rattle.std.specs.Prelude.{Option}
use Rattle.std.proofs.lemmas.Option.{same_Some}
use mathlib.Core.Logic.{◌⊎◌, inl, inr, ◌↔◌}
use Rattle.answers.specs.First.{Least}
use Rattle.answers.proofs.First.{least}
use Rattle.answers.proofs.Bools.{clash}
use Rattle.rules.specs.declared.Direction.{Direction}
use Rattle.rules.specs.Drawing.{Links, Reach, here, along}
use Rattle.rules.specs.Walk.{State, go, onto, start, loop_cells, among}
use Rattle.rules.proofs.Boards.{Wired}
use Rattle.rules_theory.specs.Loop.{walk, pass, Linked, WholeLoop, Looped}
use Rattle.rules_theory.proofs.WhiteCells.{listing, listing_length, listing_at, listing_from, listing_apart, listing_chain, among_in, in_among}
use Rattle.rules_theory.proofs.Round.{Round}
use Rattle.rules_theory.proofs.Around.{around_is, round_in, in_round}
use Rattle.rules_theory.proofs.Loop.{ring, loop, pass_linked, pass_steps, pass-white, pass_last, pass_last_step, reach_on, on_reach}

module _ {size : ℕ} {next : Direction → ℕ → Option ℕ} {white : ℕ → Bool} {link : ℕ → Direction → Bool} (B : Wired size next)
    (L : Links size next white link) where
  further : {s x y : ℕ} → Reach next link s x → Reach next link x y → Reach next link s y
  further {s = s} p (here e) = subst (Reach next link s) (sym e) p
  further p (along q h e) = along (further p q) h e

  -- links lead back
  backward : {s x : ℕ} → Reach next link s x → Reach next link x s
  backward (here e) = here (sym e)
  backward (along {x = x} {y = y} {d = d} r h e) =
      let m = L.matched x d h in
      let q : m.0 ≡ y = same_Some m.0 y (sym m.1 ∙ e) in
      further (along (here refl) (rw q at m.2) (B.back d x y e)) (backward r)

  -- some white cell from which links lead to every white cell: then there is a first white cell, and they do so from it
  module _ (whole : (t : ℕ) × (t < size) × (white t ≡ true) × ((x : ℕ) → x < size → white x ≡ true → Reach next link t x)) where
    pub lead : (s : ℕ) × Least white size s
    lead = by (least white size)
      where
        by : ((s : ℕ) × Least white size s) ⊎ ((k : ℕ) → k < size → white k ≡ false) → (s : ℕ) × Least white size s
        by (inl r) = r
        by (inr n) = clash whole.2 (n whole.0 whole.1)

    pub lead_reaches : {s : ℕ} → Least white size s → (x : ℕ) → x < size → white x ≡ true → Reach next link s x
    lead_reaches {s} F x l h = further (backward (whole.3 s F.below F.holds)) (whole.3 x l h)

  module _ {s : ℕ} (F : Least white size s) where
    -- links lead from s to x exactly if x is in the list of the walk's cells
    pub reaches : (x : ℕ) → Reach next link s x ↔ among x (loop_cells size next link s) ≡ true
    reaches x = let W = (loop B L F).1 in (λ r. in_among x _ (round_in W (reach_on B L F W r)), λ h. on_reach B L F W (in_round W (among_in x _ h)))

    abbrev cell : ℕ → ℕ
    cell k = (pass next link s k).cell

    pub whole_loop : ((x : ℕ) → x < size → white x ≡ true → Reach next link s x) → WholeLoop size next white link s
    unfolding walk listing
    whole_loop all = by (loop B L F).0 (loop B L F).1
      where
        passes-white : (k : ℕ) → (cell k < size) × (white (cell k) ≡ true)
        passes-white k = ((ring B L).inside _ _ (pass_linked B L F k), pass-white B L F k)

        by : (m : ℕ) → Round size (go next) (onto link) (start s) m → WholeLoop size next white link s
        by zero W = let l = W.long in absurd (omega arith)
        by (suc n) W = record {
          rest = listing cell 1 n;
          begins = around_is W;
          none_twice = listing_apart cell 0 (suc n) (suc n) (omega arith) W.fresh;
          the_whites =
              λ x. (
                λ h. let w = listing_from cell 0 (suc n) h in rw (← w.3) (passes-white w.0),
                λ h. rw (← (around_is W)) (round_in W (reach_on B L F W (all x h.0 h.1))),
              );
          linked =
              listing_chain cell (Linked next link) (λ k. (_, pass_linked B L F k, pass_steps B L F k)) n 0 (suc n) s (omega arith)
              (ap (λ (v : State). v.cell) W.closed);
        }

    pub looped : (m : ℕ) × Looped size next link s m
    looped =
        let (m, W) = loop B L F in (
          m,
          record {
            long = W.long;
            fits = W.fits;
            many = ap length (around_is W) ∙ listing_length _ 0 m;
            each = λ k h. ap (λ l. get_or l k 0) (around_is W) ∙ listing_at _ 0 m k k h (omega arith);
            passes = λ x r. reach_on B L F W r;
            differ = W.fresh;
            linked = pass_linked B L F;
            steps = pass_steps B L F;
            returns = W.closed;
            from_south = λ k e. let c : pass next link s (suc k) ≡ start s = rw e W.closed in (pass_last B L F k c, pass_last_step B L F k c);
          },
        )
