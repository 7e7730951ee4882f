-- What a program that prints a solution prints: with a drawing, and without. Assumes nothing.
use Prim.Native.Nat.{ℕ, ◌≤◌}
use native.Mathlib.Omega.{arith}
use lib.ListN.{length, take, length-append}
use lib.Seq.{take_at}
use mathlib.Core.Path.{◌≡◌, sym, ◌∙◌, ap}
use mathlib.Core.List.{List}
use Rattle.answers.specs.Lent.{Wrote}
use Rattle.answers.proofs.Elements.{made_long}
use Rattle.answers.proofs.Lent.{wrote_recast}
use Rattle.rules.specs.declared.board.Board as code
use Rattle.rules.specs.Record.{grid_of, size, IsAccepted}
use Rattle.rules.specs.Board.{board_of}
use Rattle.search.specs.Run.{Ending, Found, None, Halted}
use Rattle.program_text.specs.Lines.{refused_line}
use Rattle.program_text.specs.Programs.{program_number, searched, end_text, solution_text}
use Rattle.program_text.proofs.Limits.{unrefused, printed-refused, printed_text, printed_fits}
use Rattle.program_solution.specs.Solutions.{solution_drawing, WroteLine, WroteDrawing}

-- given the text of a drawing
module _ (s text : List ℕ) where
  -- a refusal is printed, or what the search's end gives
  pub text_refused : {n : ℕ} → n ≡ program_number s → (program_number s ≡ 0 → ⊥) → solution_text s text ≡ refused_line n
  text_refused e h = sym (printed-refused _ e h)

  pub text_ended : {x : Ending} → program_number s ≡ 0 → (searched (board_of s)).ending ≡ x → solution_text s text ≡ end_text x text
  text_ended e h = sym (printed_text _ e) ∙ ap (λ x. end_text x text) h

  -- what is printed fits where the text does: a line has at most 10 bytes
  pub text_inside : (room : ℕ) → 10 ≤ room → (IsAccepted s → length text ≤ room) → length (solution_text s text) ≤ room
  text_inside room r h = printed_fits s _ room r (λ e. by (searched (board_of s)).ending (h (unrefused s e).0))
    where
      by : (x : Ending) → length text ≤ room → length (end_text x text) ≤ room
      by Found l = l
      by None l = omega arith
      by Halted l = omega arith

-- a drawing has a byte for each cell
pub drawing_long : (s : List ℕ) → length (solution_drawing s) ≡ size (grid_of s)
drawing_long s = made_long _ (size (grid_of s))

-- after a call that wrote a line
pub ends-line : {s ds bs es cs : List ℕ} {n : ℕ} (text : List ℕ) → WroteLine s ds bs n es cs → Wrote bs 0 (solution_text s text) cs n
ends-line text w = wrote_recast (sym (w.prints text)) w.wrote

-- after a call that wrote a drawing
module _ {s ds bs es cs : List ℕ} {b : code.Board} (w : WroteDrawing s ds bs b es cs) where
  -- its first bytes, one for each cell
  module _ {n : ℕ} (e : n ≡ size b.grid) where
    many : n ≡ length (solution_drawing s)
    many = e ∙ ap size w.grid ∙ sym (drawing_long s)

    pub drawn-inside : n ≤ length es
    drawn-inside = omega (arith, many, simp length-append at (ap length w.wrote))

    pub drawn_cells : take n es ≡ solution_drawing s
    drawn_cells = ap (take n) w.wrote ∙ take_at (solution_drawing s) _ n (sym many)

    pub drawn_long : n ≡ length (take n es)
    drawn_long = many ∙ sym (ap length drawn_cells)

  pub ends-drawn : {text out : List ℕ} {n : ℕ} → Wrote cs 0 text out n → Wrote bs 0 (solution_text s text) out n
  ends-drawn {text} p = rw (← w.kept) (wrote_recast (sym (w.prints text)) p)
