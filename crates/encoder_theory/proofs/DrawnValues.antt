-- The valuation that a solution tells: Z from the drawing, S at the first white cell, E along the walk, Q from the place in the walk, T by counting.
-- There is no other that makes the clauses true and draws that solution. Assumes nothing.
use Prim.Native.Nat.{ℕ}
use native.Mathlib.Omega.{arith}
use native.Mathlib.Decide.{ℕ_discrete}
use lib.ListN.{length-map}
use lib.Dec.{eqb}
use borrow.Author.Tests.{eqb-true, eq-eqb}
use mathlib.Core.Path.{◌≡◌, refl, sym, ◌∙◌, ap, subst, fun_ext}
use mathlib.Core.Bool.{Bool, true, false}
use mathlib.Core.Logic.{◌⊎◌, inl, inr}
use mathlib.Core.List.Memᴰ
use mathlib.Core.List.{List, [], ◌∷◌}
use Rattle.answers.specs.First.{Least}
use Rattle.answers.specs.Lists.{◌∈◌, ApartBy}
use Rattle.answers.proofs.Bools.{clash, off, same_tests}
use Rattle.answers.proofs.First.{one_least}
use Rattle.rules.specs.declared.Direction.{Direction}
use Rattle.rules.specs.Board.{Clue, Board}
use Rattle.rules.specs.Drawing.{Drawing, white, blacks_nearest, Solution}
use Rattle.rules.proofs.Boards.{Laws}
use Rattle.rules_theory.proofs.Theorems.{lead}
use Rattle.rules_theory.proofs.Whole.{lead_reaches}
use Rattle.encoder.specs.Variables.{Variable, Z, S, E, Q, T, opens, open_count, blacks, same, place_step, place}
use Rattle.encoder.specs.Clauses.{clauses}
use Rattle.encoder.specs.Decoding.{drawn_link}
use Rattle.encoder.proofs.Neighbours.{in_opens}
use Rattle.encoder.proofs.Distinct.{z_cell}
use Rattle.encoder.proofs.Known.{Known}
use Rattle.encoder.proofs.Bounds.{place_below}
use Rattle.encoder_theory.specs.Valuations.{Holds}
use Rattle.encoder_theory.proofs.Oriented.{Sent}
use Rattle.encoder_theory.proofs.Settled.{goes_of, ahead_of, Whole, steps, ahead_white, walk_draws, walk_sent, settled_goes, settled_count}
use Rattle.encoder_theory.proofs.Valuations.{Proper}
use Rattle.encoder_theory.proofs.Read.{white_of, of_white, some_start, start_first, start_is, black_nowhere, sent}
use Rattle.encoder_theory.proofs.Sound.{counted}

abbrev pick : {A B : Type 0} → Dec A → B → B → B
pick (yes e) x y = x
pick (no e) x y = y

-- the line of the clue in a cell
unfoldable pub line_at : List Clue → ℕ → List ℕ
line_at [] a = []
line_at (c ∷ cs) a = pick (ℕ_discrete c.cell a) c.line (line_at cs a)

pub line_is : (cs : List Clue) → ApartBy (λ (c : Clue). c.cell) cs → (c : Clue) → c ∈ cs → line_at cs c.cell ≡ c.line
unfolding line_at
line_is [] h c m = absurd (Memᴰ.not-nil m)
line_is (k ∷ cs) h c m = by (ℕ_discrete k.cell c.cell) (Memᴰ.cases_cons m) (line_is cs h.1 c)
  where
    by : (d : Dec (k.cell ≡ c.cell)) → (c ≡ k) ⊎ (c ∈ cs) → (c ∈ cs → line_at cs c.cell ≡ c.line) → pick d k.line (line_at cs c.cell) ≡ c.line
    by (yes e) (inl p) go = ap (λ (z : Clue). z.line) (sym p)
    by (yes e) (inr n) go = absurd (h.0 c n e)
    by (no e) (inl p) go = absurd (e (ap (λ (z : Clue). z.cell) (sym p)))
    by (no e) (inr n) go = go n

-- the place in a list tells its elements apart
place_outcome : (v u : Variable) (vs : List Variable) → v ∈ vs → u ∈ vs → place v vs ≡ place u vs → v ≡ u
unfolding place
place_outcome v u [] m n e = absurd (Memᴰ.not-nil m)
place_outcome v u (z ∷ vs) m n e = by (same v z) (same u z) (Memᴰ.cases_cons m) (Memᴰ.cases_cons n) (place_outcome v u vs) e
  where
    by : (c : Dec (v ≡ z)) (d : Dec (u ≡ z)) → (v ≡ z) ⊎ (v ∈ vs) → (u ≡ z) ⊎ (u ∈ vs) → (v ∈ vs → u ∈ vs → place v vs ≡ place u vs → v ≡ u)
        → place_step c (place v vs) ≡ place_step d (place u vs) → v ≡ u
    by (yes p) (yes q) i j go e = p ∙ sym q
    by (yes p) (no q) i j go e = absurd (omega arith)
    by (no p) (yes q) i j go e = absurd (omega arith)
    by (no p) (no q) (inl i) j go e = absurd (p i)
    by (no p) (no q) (inr i) (inl j) go e = absurd (q j)
    by (no p) (no q) (inr i) (inr j) go e = go i j (omega arith)

module _ (b : Board) (law : Laws b) (D : Drawing) (sol : Solution b D) where
  abbrev bright : ℕ → Bool
  bright = white b D.black

  -- the first white cell, and that links lead from it everywhere
  abbrev pub first : ℕ
  first = (lead law sol).0

  abbrev pub leads : Least (white b D.black) b.size (lead law sol).0
  leads = (lead law sol).1

  abbrev pub whole : Whole b.size b.next (white b D.black) D.link (lead law sol).0
  whole = record { links = sol.links; all = lead_reaches law.wired sol.links sol.whole (lead law sol).1 }

  abbrev pub length_of_loop : ℕ
  length_of_loop = steps law.wired leads whole

  abbrev pub told : Variable → Bool
  told (Z x) = D.black x
  told (S x) = eqb x first
  told (E x d) = goes_of b.next D.link first length_of_loop x d
  told (Q x k) = ahead_of b.next D.link first length_of_loop x k
  told (T a j t) = eqb (blacks_nearest D.black (line_at b.clues a) j) t

  -- the bound of the counts: the Z variables tell the white cells apart, and there are F of them
  in_blacks : (x : ℕ) → bright x ≡ true → Z x ∈ blacks b
  in_blacks x h = Memᴰ.map (λ x. Z x) (in_opens b law (of_white b D.black x h).0)

  pub told_sent : Sent b.size b.next (white b D.black) first (open_count b) (λ x d. told (E x d)) (λ x k. told (Q x k) ≡ true)
  told_sent =
      walk_sent law.wired leads whole (open_count b) (λ x. place (Z x) (blacks b))
      (λ x h. let l = place_below (Z x) (in_blacks x h) in omega (arith, length-map (opens b) (λ x. Z x)))
      (λ x y h k e. z_cell x y (place_outcome (Z x) (Z y) (blacks b) (in_blacks x h) (in_blacks y k) e))

  pub told_drawn : (x : ℕ) (d : Direction) → D.link x d ≡ drawn_link b told x d
  told_drawn = walk_draws law.wired leads whole

  pub told_white : (x k : ℕ) → told (Q x k) ≡ true → white b D.black x ≡ true
  told_white = ahead_white law.wired leads whole

  -- any valuation that makes the clauses true and draws this
  module _ (w : Variable → Bool) (proper : Proper b w) (holds : Holds w (clauses b)) (blacks : (x : ℕ) → w (Z x) ≡ D.black x)
      (links : (x : ℕ) (d : Direction) → D.link x d ≡ drawn_link b w x d) where
    black_path : (λ x. w (Z x)) ≡ D.black
    black_path = fun_ext blacks

    start_at_first : w (S first) ≡ true
    start_at_first =
        let (s, h) = some_start b law w proper holds in
        ap (λ x. w (S x)) (one_least leads (subst (λ f. Least (white b f) b.size s) black_path (start_first b law w proper holds s h))) ∙ h

    w_sent : Sent b.size b.next (white b D.black) first (open_count b) (λ x d. w (E x d)) (λ x k. w (Q x k) ≡ true)
    w_sent =
        subst (λ f. Sent b.size b.next (white b f) first (open_count b) (λ x d. w (E x d)) (λ x k. w (Q x k) ≡ true)) black_path
        (sent b law w proper holds first start_at_first)

    pub settled : (v : Variable) → Known b v → w v ≡ told v
    settled (Z x) h = blacks x
    settled (S x) h =
        same_tests (w (S x)) (eqb x first) (λ p. eq-eqb x first (start_is b law w proper holds first x start_at_first p))
        (λ p. ap (λ z. w (S z)) (eqb-true x first p) ∙ start_at_first)
    settled (E x d) h = settled_goes law.wired leads whole w_sent links x d
    settled (Q x k) h = by (D.black x) refl
      where
        by : (t : Bool) → D.black x ≡ t → w (Q x k) ≡ told (Q x k)
        by false e =
            let c = settled_count law.wired leads whole w_sent links x k (law.open_stays x h.0) (white_of b D.black x h.0 e) in
            same_tests (w (Q x k)) (told (Q x k)) c.0 c.1
        by true e =
            black_nowhere b law w proper holds x k h.0 h.1 (blacks x ∙ e)
            ∙ sym (off (told (Q x k)) (λ p. clash e (of_white b D.black x (told_white x k p)).1))
    settled (T a j t) (c, m, e, h, k) = subst (λ a. w (T a j t) ≡ told (T a j t)) e (
        counted b law w proper holds c m j t h k
        ∙ ap (λ f. eqb (blacks_nearest f c.line j) t) black_path
        ∙ ap (λ l. eqb (blacks_nearest D.black l j) t) (sym (line_is b.clues law.clues_apart c m)))
