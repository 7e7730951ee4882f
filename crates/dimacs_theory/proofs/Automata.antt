-- Automata over bytes: which texts they accept, and the place at which they refuse one. Assumes nothing.
use Prim.Native.Nat.{ℕ, suc, ◌+◌}
use native.Mathlib.Omega.{arith}
use lib.ListN.{take}
use mathlib.Core.Path.{◌≡◌, refl, sym, ◌∙◌, ap}
use mathlib.Core.Bool.{Bool, true, false, not}
use mathlib.Core.Logic.{◌↔◌}
use Rattle.std.specs.Prelude.{Option, None, Some}
use Rattle.std.proofs.lemmas.Option.{same_Some, none-some}
use Rattle.answers.proofs.Options.{some-none}
use mathlib.Core.List.{List, [], ◌∷◌, ◌++◌}
use Rattle.answers.specs.First.{found}
use Rattle.answers.proofs.Bools.{clash}
use Rattle.dimacs.specs.Automaton.{next, end_from, refused_from}
use Rattle.dimacs_theory.specs.Place.{Begins, Refused, Automaton}
use Rattle.dimacs_theory.proofs.Places.{refused_as, refused-not, refused_once}

module _ {S : Type 0} (step : S → ℕ → Option S) (accepts : S → Bool) where
  -- a text is accepted from a state, by the state after it
  abbrev pub Ends : S → List ℕ → Type 0
  Ends s text = (t : S) × (end_from step s text ≡ Some t) × (accepts t ≡ true)

  pub accepted_ends : (s : S) (text : List ℕ) (at : ℕ) → refused_from step accepts s text at ≡ None → Ends s text
  unfolding refused_from end_from
  accepted_ends s [] at e = (s, refl, by (accepts s) e)
    where
      by : (a : Bool) → found (not a) at None ≡ None → a ≡ true
      by true e = refl
      by false e = absurd (some-none at e)
  accepted_ends s (b ∷ bs) at e = by (step s b) (λ t. accepted_ends t bs (suc at)) e
    where
      by : (o : Option S) → ((t : S) → refused_from step accepts t bs (suc at) ≡ None → Ends t bs)
          → next o (Some at) (λ t. refused_from step accepts t bs (suc at)) ≡ None
          → (t : S) × (next o None (λ t. end_from step t bs) ≡ Some t) × (accepts t ≡ true)
      by None go e = absurd (some-none at e)
      by (Some t) go e = go t e

  pub ends_accepted : (s : S) (text : List ℕ) (at : ℕ) → Ends s text → refused_from step accepts s text at ≡ None
  unfolding refused_from end_from
  ends_accepted s [] at e = rw (ap accepts (same_Some s e.0 e.1) ∙ e.2)
  ends_accepted s (b ∷ bs) at e = by (step s b) (λ t. ends_accepted t bs (suc at)) e.1
    where
      by : (o : Option S) → ((t : S) → Ends t bs → refused_from step accepts t bs (suc at) ≡ None)
          → next o None (λ t. end_from step t bs) ≡ Some e.0
          → next o (Some at) (λ t. refused_from step accepts t bs (suc at)) ≡ None
      by None go h = absurd (none-some e.0 h)
      by (Some t) go h = go t (e.0, h, e.2)

  -- where a text is refused, counted from the state on
  data Stops : S → List ℕ → ℕ → Type 0 where
    short : {s : S} → accepts s ≡ false → Stops s [] 0
    dies : {s : S} {b : ℕ} {bs : List ℕ} → step s b ≡ None → Stops s (b ∷ bs) 0
    later : {s t : S} {b : ℕ} {bs : List ℕ} {k : ℕ} → step s b ≡ Some t → Stops t bs k → Stops s (b ∷ bs) (suc k)

  stops : (s : S) (text : List ℕ) (at m : ℕ) → refused_from step accepts s text at ≡ Some m → (k : ℕ) × (m ≡ at + k) × Stops s text k
  unfolding refused_from
  stops s [] at m e = by (accepts s) refl e
    where
      by : (a : Bool) → accepts s ≡ a → found (not a) at None ≡ Some m → (k : ℕ) × (m ≡ at + k) × Stops s [] k
      by true q e = absurd (none-some m e)
      by false q e = let p = same_Some at m e in (0, omega arith, short q)
  stops s (b ∷ bs) at m e = by (step s b) refl (λ t. stops t bs (suc at) m) e
    where
      by : (o : Option S) → step s b ≡ o → ((t : S) → refused_from step accepts t bs (suc at) ≡ Some m → (k : ℕ) × (m ≡ suc at + k) × Stops t bs k)
          → next o (Some at) (λ t. refused_from step accepts t bs (suc at)) ≡ Some m
          → (k : ℕ) × (m ≡ at + k) × Stops s (b ∷ bs) k
      by None q go e = let p = same_Some at m e in (0, omega arith, dies q)
      by (Some t) q go e = let r = go t e in let p = r.1 in (suc r.0, omega arith, later q r.2)

  -- a byte taken from the front
  ends_on : {s t : S} {b : ℕ} → step s b ≡ Some t → (bs : List ℕ) → Ends s (b ∷ bs) ↔ Ends t bs
  unfolding end_from
  ends_on {s} {t} {b} e bs = (λ r. (r.0, sym on ∙ r.1, r.2), λ r. (r.0, on ∙ r.1, r.2))
    where
      on : next (step s b) None (λ u. end_from step u bs) ≡ end_from step t bs
      on = rw e

module _ {S : Type 0} (A : Automaton S) where
  open A use {step, accepts, start, Live}

  abbrev Taken : S → List ℕ → Type 0
  Taken s text = Ends step accepts s text

  completing : {s : S} → Live s → Begins (Taken s) []
  completing {s} l = let r = A.completes l in (r.0, accepted_ends step accepts s r.0 0 r.1)

  refused : {s : S} {text : List ℕ} {k : ℕ} → Live s → Stops step accepts s text k → Refused (Taken s) text k
  unfolding end_from
  refused {s} l (short e) =
      record {
        within = omega arith;
        before = completing l;
        inside = λ h. absurd (omega arith);
        too_soon = λ h. (completing l, λ r. clash r.2 (ap accepts (sym (same_Some s r.0 r.1)) ∙ e));
      }
  refused {s} l (dies {b = b} {bs = bs} e) =
      record {
        within = omega arith;
        before = completing l;
        inside = λ h r. none-some r.1.0 (sym (rw e) ∙ r.1.1);
        too_soon = λ h. absurd (omega arith);
      }
  refused {s} l (later {t = t} {b = b} {bs = bs} {k = k} e h) =
      let r = refused (A.kept b l e) h in
      let w = r.within in
      record {
        within = omega arith;
        before = back (take k bs) r.before;
        inside = λ i p. r.inside (omega arith) (p.0, (on (take (suc k) bs ++ p.0)).0 p.1);
        too_soon = λ i. let p = r.too_soon (omega arith) in (back bs p.0, λ q. p.1 ((on bs).0 q));
      }
    where
      on : (rest : List ℕ) → Taken s (b ∷ rest) ↔ Taken t rest
      on rest = ends_on step accepts e rest

      back : (front : List ℕ) → Begins (Taken t) front → Begins (Taken s) (b ∷ front)
      back front p = (p.0, (on (front ++ p.0)).1 p.1)

  -- the place of a refused text, for any notion of an accepted text that is the automaton's
  module _ (Accepted : List ℕ → Type 0) (exactly : (text : List ℕ) → refused_from step accepts start text 0 ≡ None ↔ Accepted text) (text : List ℕ) where
    found-refused : (k : ℕ) → refused_from step accepts start text 0 ≡ Some k → Refused Accepted text k
    found-refused k e =
        let r = stops step accepts start text 0 k e in
        let p = r.1 in
        let same : r.0 ≡ k = omega arith in
        rw same at (refused_as taken (refused A.begun r.2))
      where
        taken : (text : List ℕ) → Taken start text ↔ Accepted text
        taken text = (λ t. (exactly text).0 (ends_accepted step accepts start text 0 t), λ a. accepted_ends step accepts start text 0 ((exactly text).1 a))

    pub place : (k : ℕ) → refused_from step accepts start text 0 ≡ Some k ↔ Refused Accepted text k
    place k = (found-refused k, λ r. by r (refused_from step accepts start text 0) refl)
      where
        by : Refused Accepted text k → (o : Option ℕ) → refused_from step accepts start text 0 ≡ o → o ≡ Some k
        by r None e = absurd (refused-not r ((exactly text).0 e))
        by r (Some j) e = ap Some (refused_once (found-refused j e) r)
