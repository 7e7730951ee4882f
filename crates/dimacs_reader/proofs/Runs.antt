-- Laws of the automaton's runs over a text: one step, one after the other, where a byte is refused; and from the text's end backwards.
-- Assumes nothing.
use Prim.Native.Nat.{ℕ, zero, suc, ◌+◌, ◌≤◌, ◌<◌}
use native.Mathlib.Omega.{arith}
use native.Mathlib.Decide.{dec_lt}
use lib.IntN.{ℤ}
use lib.ListN.{length, get_or, drop, drop_of_length-le}
use lib.Seq.{drop-cons}
use mathlib.Core.Path.{◌≡◌, refl, sym, ◌∙◌, ap}
use mathlib.Core.Bool.{false}
use Rattle.std.specs.Prelude.{None, Some}
use mathlib.Core.List.{List, [], ◌++◌, append_assoc}
use Rattle.dimacs.specs.Automaton.{next, end_from, refused_from}
use Rattle.dimacs.specs.Reader.{Header, State, step_byte, accepts, ended, ended_last, list_from, no_header, header_in}

-- the header that is told at the text's end, from a state at a place
abbrev pub header_after : List ℕ → State → ℕ → Header
header_after text s a = next (end_from step_byte s (drop a text)) no_header header_in

-- from state s at place a the text goes on as from state t at place b, with these elements between
pub record Run (text : List ℕ) (s : State) (a : ℕ) (ls : List ℤ) (t : State) (b : ℕ) : Type 0 where
  pub refused : refused_from step_byte accepts s (drop a text) a ≡ refused_from step_byte accepts t (drop b text) b
  pub list : list_from s (drop a text) ≡ ls ++ list_from t (drop b text)
  pub header : header_after text s a ≡ header_after text t b

-- from state s at place a the text is refused at place p, with these elements before it
pub record Dead (text : List ℕ) (s : State) (a : ℕ) (ls : List ℤ) (p : ℕ) : Type 0 where
  pub place : refused_from step_byte accepts s (drop a text) a ≡ Some p
  pub list : list_from s (drop a text) ≡ ls

pub run_stay : (text : List ℕ) (s : State) (a : ℕ) → Run text s a [] s a
run_stay text s a = record { refused = refl; list = refl; header = refl }

pub run_then : {text : List ℕ} {s t u : State} {a b c : ℕ} {ls ms : List ℤ} → Run text s a ls t b → Run text t b ms u c → Run text s a (ls ++ ms) u c
run_then {text = text} {u = u} {c = c} {ls = ls} {ms = ms} p q =
    record {
      refused = p.refused ∙ q.refused;
      list = p.list ∙ ap (λ (rest : List ℤ). ls ++ rest) q.list ∙ sym (append_assoc ls ms (list_from u (drop c text)));
      header = p.header ∙ q.header;
    }

pub run_dead : {text : List ℕ} {s t : State} {a b p : ℕ} {ls ms : List ℤ} → Run text s a ls t b → Dead text t b ms p → Dead text s a (ls ++ ms) p
run_dead {ls = ls} r d = record { place = r.refused ∙ d.place; list = r.list ∙ ap (λ (rest : List ℤ). ls ++ rest) d.list }

module _ {text : List ℕ} {a : ℕ} (h : a < length text) where
  -- the byte at a place takes the automaton on
  pub run_step : {s t : State} {es : List ℤ} → step_byte s (get_or text a 0) ≡ Some t → ended s (get_or text a 0) ≡ es → Run text s a es t (suc a)
  unfolding refused_from list_from end_from
  run_step e f =
      record {
        refused = rw (drop-cons text a 0 h, e);
        list = rw (drop-cons text a 0 h, e, f);
        header = rw (drop-cons text a 0 h, e);
      }

  -- the byte is refused there
  pub dead_step : {s : State} → step_byte s (get_or text a 0) ≡ None → Dead text s a [] a
  unfolding refused_from list_from
  dead_step e = record { place = rw (drop-cons text a 0 h, e); list = rw (drop-cons text a 0 h, e) }

  -- two states that the byte treats alike
  pub run_alike : {s t : State} → step_byte s (get_or text a 0) ≡ step_byte t (get_or text a 0) → ended s (get_or text a 0) ≡ ended t (get_or text a 0)
      → Run text s a [] t a
  unfolding refused_from list_from end_from
  run_alike e f =
      record {
        refused = rw (drop-cons text a 0 h, e);
        list = rw (drop-cons text a 0 h, e, f);
        header = rw (drop-cons text a 0 h, e);
      }

-- the text ends
module _ {text : List ℕ} {a : ℕ} (h : length text ≤ a) where
  pub dead_end : {s : State} → accepts s ≡ false → ended_last s ≡ [] → Dead text s a [] a
  unfolding refused_from list_from
  dead_end e f = record { place = rw (drop_of_length-le text h, e); list = rw (drop_of_length-le text h, f) }

  -- two states that the text's end treats alike
  pub run_end : {s t : State} {es : List ℤ} → accepts s ≡ accepts t → ended_last s ≡ es ++ ended_last t → header_in s ≡ header_in t → Run text s a es t a
  unfolding refused_from list_from end_from
  run_end e f g =
      record {
        refused = rw (drop_of_length-le text h, e);
        list = rw (drop_of_length-le text h, f);
        header = rw (drop_of_length-le text h, g);
      }

-- what holds at the text's end, and at a place if at all later ones, holds at every place
module _ (text : List ℕ) (P : ℕ → Type 0) (over : (a : ℕ) → length text ≤ a → P a) (step : (a : ℕ) → a < length text → ((b : ℕ) → a < b → P b) → P a) where
  in_reach : (fuel a : ℕ) → length text ≤ a + fuel → P a
  in_reach zero a e = over a (omega arith)
  in_reach (suc fuel) a e = by (dec_lt a (length text)) (λ b l. in_reach fuel b (omega arith))
    where
      by : Dec (a < length text) → ((b : ℕ) → a < b → P b) → P a
      by (yes h) go = step a h go
      by (no h) go = over a (omega arith)

  pub every_place : (a : ℕ) → P a
  every_place a = in_reach (length text) a (omega arith)
