-- Turns of the loops that look for a wrong number. Assumes nothing.
use Prim.Native.Nat.{ℕ, suc, ◌+◌, ◌≤◌, ◌<◌}
use native.Mathlib.Numerals.{add-one}
use lib.IntN.{ℤ, pos}
use lib.ListN.{length, get_or, drop, drop_of_length-le}
use lib.Seq.{drop-cons}
use borrow.Author.Tests.{eq-eqb, ne_eqb}
use mathlib.Core.Path.{◌≡◌, refl, sym, ◌∙◌, ap}
use mathlib.Core.Bool.{Bool, true, false, not, ◌&&◌, ◌||◌, and-true, and-false, or-true, or-false}
use mathlib.Core.List.{List, [], ◌∷◌}
use Rattle.answers.proofs.Elements.{made_long}
use Rattle.answers.proofs.First.{Seeking, seek_start, seek_on}
use Rattle.cnf.specs.Literals.{closes, code_of}
use Rattle.search.specs.Trail.{Slices, Values, entry_at, trail_of, variable_value}
use Rattle.search.specs.Step.{every_literal, passes_but}
use Rattle.search.specs.Reasons.{differs, is_reason, wrong_number}
use Rattle.answers.specs.First.{Until}
use Rattle.answers.proofs.Bounds.{until_here}
use Rattle.search_numbers.specs.Window.{bytes_of, noted, byte_passes, wrong_in}
use Rattle.search_numbers.proofs.Values.{bytes_noted, passes_same}

-- 1. The literals of a clause

-- at j, on the way from i: `has` tells whether the literal was met
pub record Holding (p : ℤ → Bool) (l : ℤ) (ls : List ℤ) (i j : ℕ) (has : Bool) : Type 0 where
  pub rest : (has || not (every_literal (differs l) (drop j ls))) && every_literal (passes_but p l) (drop j ls)
      ≡ is_reason p l (drop i ls)

module _ {p : ℤ → Bool} {l : ℤ} {ls : List ℤ} {i j : ℕ} {has : Bool} (g : Holding p l ls i j has) where
  pub hold_end : length ls ≤ j → false ≡ is_reason p l (drop i ls)
  unfolding every_literal
  hold_end h = sym (and-false (has || true)) ∙ (rw (drop_of_length-le ls h) at g.rest)

  module _ (h : j < length ls) where
    abbrev here : ℤ
    here = get_or ls j (pos 0)

    abbrev after : List ℤ
    after = drop (suc j) ls

    hold_here : (has || not (every_literal (differs l) (here ∷ after))) && every_literal (passes_but p l) (here ∷ after)
        ≡ is_reason p l (drop i ls)
    hold_here = rw (drop-cons ls j (pos 0) h) at g.rest

    pub hold_closed : closes here ≡ true → has ≡ is_reason p l (drop i ls)
    unfolding every_literal
    hold_closed z = sym (and-true (has || false) ∙ or-false has) ∙ (rw z at hold_here)

    module _ (z : closes here ≡ false) where
      pub hold_own : code_of here ≡ code_of l → Holding p l ls i (j + 1) true
      unfolding every_literal
      hold_own e =
          let q = eq-eqb (code_of here) (code_of l) e in
          let met = ap (λ b. b && every_literal (passes_but p l) after) (sym (or-true has)) in
          record { rest = rw add-one (met ∙ (rw (z, q) at hold_here)) }

      module _ (n : code_of here ≡ code_of l → ⊥) where
        pub hold_on : p here ≡ true → Holding p l ls i (j + 1) has
        unfolding every_literal
        hold_on e = let q = ne_eqb (code_of here) (code_of l) n in record { rest = rw add-one (rw (z, q, e) at hold_here) }

        pub hold_not : p here ≡ false → false ≡ is_reason p l (drop i ls)
        unfolding every_literal
        hold_not e = let q = ne_eqb (code_of here) (code_of l) n in sym (and-false (has || not (every_literal (differs l) after))) ∙ (rw (z, q, e) at hold_here)

-- 2. The entries, by the values of those before them

-- at the head of the loop: the bytes are those of the first i entries, and none of these is wrong
pub record Noting (ls : List ℤ) (s : Slices) (n low : ℕ) (start bs : List ℕ) (i : ℕ) : Type 0 where
  pub bytes : bs ≡ bytes_of (variable_value (trail_of s i)) low (length start)
  pub long : length bs ≡ length start
  pub seeks : Seeking (wrong_in low (low + length start) ls s) n i

pub noting_start : {ls : List ℤ} {s : Slices} {n low : ℕ} {bs : List ℕ} → bs ≡ bytes_of (variable_value []) low (length bs) → Noting ls s n low bs bs 0
unfolding trail_of
noting_start e = record { bytes = e; long = refl; seeks = seek_start }

module _ {ls : List ℤ} {s : Slices} {n low : ℕ} {start bs : List ℕ} {i : ℕ} (g : Noting ls s n low start bs i) where
  -- what `is_wrong` says of the entry
  says : wrong_number (byte_passes low bs) ls (entry_at s i) ≡ wrong_in low (low + length start) ls s i
  says =
      let w : Values = variable_value (trail_of s i) in
      ap (λ cs. wrong_number (byte_passes low cs) ls (entry_at s i)) g.bytes
      ∙ ap (λ p. wrong_number p ls (entry_at s i)) (λ j k. passes_same low w (length start) k j)

  module _ (h : i < n) where
    pub noting_found : {b : Bool} → b ≡ wrong_number (byte_passes low bs) ls (entry_at s i) → b ≡ true
        → Until (wrong_in low (low + length start) ls s) n i × (bs ≡ bytes_of (variable_value (trail_of s i)) low (length start))
    noting_found q e = (until_here g.seeks h (sym (q ∙ says) ∙ e), g.bytes)

    pub noting_on : {b : Bool} {cs : List ℕ} → b ≡ wrong_number (byte_passes low bs) ls (entry_at s i) → b ≡ false
        → cs ≡ noted low bs (code_of (get_or s.trail i (pos 0))) → Noting ls s n low start cs (i + 1)
    unfolding trail_of
    noting_on {cs = cs} q e f =
        record { bytes = bytes; long = ap length bytes ∙ made_long _ (length start); seeks = seek_on g.seeks h (sym (q ∙ says) ∙ e) }
      where
        bytes : cs ≡ bytes_of (variable_value (trail_of s (i + 1))) low (length start)
        bytes =
            f ∙ ap (λ ds. noted low ds (code_of (get_or s.trail i (pos 0)))) g.bytes
            ∙ bytes_noted low (length start) (trail_of s i) (entry_at s i) ∙ rw add-one refl
