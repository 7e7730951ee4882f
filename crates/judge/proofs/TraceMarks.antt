-- The walk in code: marking the cells that it passes. Assumes nothing.
use Prim.Native.Nat.{ℕ, suc, ◌-◌, ◌≤◌, ◌<◌}
use native.Mathlib.Omega.{arith}
use lib.Dec.{eqb}
use lib.ListN.{length, get_or, set, replicate, length-set, length-replicate, get_or-replicate}
use lib.Seq.{get_or-set_same, get_or-set_other}
use borrow.Author.Tests.{eqb-true, eqb-false, eq-eqb, ne_eqb}
use mathlib.Core.Path.{◌≡◌, refl, sym, ◌∙◌, ap}
use mathlib.Core.Bool.{Bool, true, false, not, ◌&&◌, ◌||◌, cond, and_comm}
use mathlib.Core.List.{List, [], ◌∷◌}
use Rattle.answers.specs.First.{first_where}
use Rattle.answers.proofs.First.{first_same}
use Rattle.rules.specs.declared.Direction.{Direction}
use Rattle.rules.specs.declared.Grid.{Grid}
use Rattle.rules.specs.Directions.{opposite, other}
use Rattle.rules.specs.Record.{size, most_cells, OnBoard}
use Rattle.rules.specs.Board.{Board, neighbour}
use Rattle.rules.specs.Drawing.{byte_link, link_at}
use Rattle.rules.specs.Walk.{go, onto, around, loop_cells, among}
use Rattle.judge.specs.WalkMarks.{ones_at, unseen_at}
use Rattle.rules.specs.Judge.{white_at, off_loop_at}
use Rattle.rules_board.proofs.Steps.{gone_on}

-- to mark what is left of the walk gives the whole
pub record Tracing (g : Grid) (ds : List ℕ) (s : ℕ) (seen₀ seen : List ℕ) (x : ℕ) (d : Direction) (left : ℕ) : Type 0 where
  pub on : OnBoard g x
  pub rest : ones_at (around (go (neighbour g)) (onto (link_at ds)) s left (record { cell = x; way = d })) seen
      ≡ ones_at (loop_cells (size g) (neighbour g) (link_at ds) s) seen₀

module _ {g : Grid} {ds : List ℕ} {s : ℕ} {seen₀ seen : List ℕ} {x : ℕ} {d : Direction} {left : ℕ} (t : Tracing g ds s seen₀ seen x d left) where
  pub trace_end : left ≡ 0 → seen ≡ ones_at (loop_cells (size g) (neighbour g) (link_at ds) s) seen₀
  unfolding around ones_at
  trace_end e = rw e at t.rest

  module _ {y : ℕ} (p : y ≡ go (neighbour g) d x) where
    pub trace_back : 0 < left → y ≡ s → set seen x 1 ≡ ones_at (loop_cells (size g) (neighbour g) (link_at ds) s) seen₀
    unfolding around ones_at
    trace_back h e = let q : left ≡ suc (left - 1) = omega arith in rw (q, ← p, eq-eqb _ _ e) at t.rest

    pub trace_on : {c e : Direction} {l : ℕ} → left ≡ suc l → (y ≡ s → ⊥) → c ≡ opposite d → e ≡ other (byte_link (get_or ds y 0)) c
        → Tracing g ds s seen₀ (set seen x 1) y e l
    unfolding around ones_at
    trace_on h f q r = record { on = gone_on d t.on p; rest = rw (r, q) (rw (h, ← p, ne_eqb _ _ f) at t.rest) }

-- a cell is marked exactly if it is in the list
ones-at : (l ms : List ℕ) (x : ℕ) → x < length ms → get_or (ones_at l ms) x 0 ≡ cond (among x l) 1 (get_or ms x 0)
unfolding ones_at among
ones-at [] ms x h = refl
ones-at (y ∷ l) ms x h = ones-at l (set ms y 1) x (rw (length-set ms y 1) h) ∙ by (eqb x y) refl (among x l)
  where
    by : (b : Bool) → eqb x y ≡ b → (c : Bool) → cond c 1 (get_or (set ms y 1) x 0) ≡ cond (b || c) 1 (get_or ms x 0)
    by true e true = refl
    by true e false = rw (sym (eqb-true x y e)) (get_or-set_same ms x 1 0 h)
    by false e true = refl
    by false e false = get_or-set_other ms y x 1 0 (λ q. eqb-false x y e q)

-- marked on a clean array, the white cells without a mark are those off the loop
pub unseen_off : (b : Board) (ds : List ℕ) (s : ℕ) → b.size ≤ most_cells → {seen : List ℕ}
    → seen ≡ ones_at (loop_cells b.size b.next (link_at ds) s) (replicate most_cells 0)
    → first_where (unseen_at b ds seen) b.size ≡ first_where (off_loop_at b ds s) b.size
unseen_off b ds s few {seen} e = first_same (unseen_at b ds seen) (off_loop_at b ds s) b.size same
  where
    cells : List ℕ
    cells = loop_cells b.size b.next (link_at ds) s

    flip : (c : Bool) → eqb (cond c 1 0) 0 ≡ not c
    flip true = refl
    flip false = refl

    mark : (x : ℕ) → x < b.size → eqb (get_or seen x 0) 0 ≡ not (among x cells)
    mark x h =
        let l : x < most_cells = omega arith in
        ap (λ (m : List ℕ). eqb (get_or m x 0) 0) e
        ∙ ap (λ (v : ℕ). eqb v 0) (ones-at cells (replicate most_cells 0) x (rw (length-replicate {A = ℕ} most_cells 0) l) ∙ ap
        (λ (v : ℕ). cond (among x cells) 1 v) (get_or-replicate most_cells x 0 0 l))
        ∙ flip (among x cells)

    same : (x : ℕ) → x < b.size → unseen_at b ds seen x ≡ off_loop_at b ds s x
    same x h = ap (λ (t : Bool). t && white_at b ds x) (mark x h) ∙ and_comm (not (among x cells)) (white_at b ds x)
