-- The numbers that a call gets and leaves. Assumes nothing.
use Prim.Native.Nat.{ℕ, ◌+◌, ◌-◌, ◌≤◌, ◌<◌}
use native.Mathlib.Omega.{arith}
use lib.Dec.{eqb}
use lib.IntN.{ℤ, pos}
use lib.ListN.{length, get_or, replicate}
use mathlib.Core.Path.{◌≡◌, sym, ◌∙◌, ap, subst}
use mathlib.Core.Bool.{Bool, false, not, ◌||◌}
use mathlib.Core.Logic.{⊎_elim}
use Rattle.std.specs.Prelude.{None}
use mathlib.Core.List.{List, [], ◌∷◌, ◌++◌}
use Rattle.answers.specs.First.{or_else, first_where}
use Rattle.answers.specs.Lists.{All}
use Rattle.answers.specs.Outcome.{Row, row, cause, first_refusal}
use Rattle.answers.proofs.First.{first_same}
use Rattle.answers.proofs.Lists.{blank}
use Rattle.cnf.specs.Literals.{unclosed, wrong_list}
use Rattle.search.specs.Trail.{entry, Trail, Slices, slices, laid, entry_at, trail_of, variable_value, Agrees}
use Rattle.search.specs.Step.{Moved, fails, failed_clause}
use Rattle.search.specs.Run.{done_outcome}
use Rattle.search.specs.Reasons.{wrong_number, wrong_number_at, wrong_numbers}
use Rattle.search.specs.Call.{Search, Handed, wrong_lengths, wrong_entry, wrong_entry_at, is_found, Call, Searching, Following, search_rows, rows_of, begins}
use Rattle.search.specs.Call.{comes_to, IsTaken, runs, hands, hands_done, ends_at}
use Rattle.search.proofs.Trails.{same_trail, laid_rest}
use Rattle.search_theory.specs.ListedSteps.{Undoes, Leads, stays, moves}
use Rattle.search_theory.specs.Reasons.{clause_numbered, Explained, AllExplained, renumbered, OnlyWay}
use Rattle.search_theory.proofs.Undo.{undoes_to}
use Rattle.search_theory.proofs.Legal.{each_at}
use Rattle.search_theory.proofs.Kept.{KeptNext}
use Rattle.search_theory.proofs.Reasons.{explained_undo, explained_step, only_way}
use Rattle.search_theory.proofs.Accepted.{taken_closed, taken_explained}
use Rattle.search_theory.proofs.Handed.{comes, hands-done, ends-at}
use Rattle.search_theory.proofs.ListedSteps.{only_step}

-- 1. Numbers at unused entries are not looked at

module _ (c : Search) (ns : List ℕ) (long : length ns ≡ length c.slices.numbers)
    (same : (i : ℕ) → i < c.used → get_or ns i 0 ≡ get_or c.slices.numbers i 0) where
  abbrev s : Slices
  s = c.slices

  abbrev r : Slices
  r = slices s.trail s.marks ns

  same_entry : (i : ℕ) → i < c.used → entry_at r i ≡ entry_at s i
  same_entry i h = ap (λ (n : ℕ). entry (get_or s.trail i (pos 0)) (get_or s.marks i 0) n) (same i h)

  same_before : (i : ℕ) → i ≤ c.used → trail_of r i ≡ trail_of s i
  same_before i h = same_trail r s i (λ j k. same_entry j (omega arith))

  same_begin : begins (renumbered c ns) ≡ begins c
  same_begin = same_before c.used (omega arith)

  same_18 : first_where (wrong_entry_at c.variables r) c.used ≡ first_where (wrong_entry_at c.variables s) c.used
  same_18 = first_same _ _ c.used (λ k h j. wrong_entry c.variables (same_before k (omega arith) j) (same_entry k h j))

  same_22 : wrong_numbers c.variables c.list r c.used ≡ wrong_numbers c.variables c.list s c.used
  same_22 = (λ j. or_else (cause (not (eqb (long j) c.variables))) (each j))
    where
      each : first_where (wrong_number_at c.list r) c.used ≡ first_where (wrong_number_at c.list s) c.used
      each = first_same _ _ c.used (λ k h j. wrong_number (fails (variable_value (same_before k (omega arith) j))) c.list (same_entry k h j))

  same_search : search_rows (renumbered c ns) ≡ search_rows c
  same_search =
      let first = row 17 (cause (wrong_lengths c.variables s c.used)) in
      (λ j. first ∷ row 16 (wrong_list c.variables c.list) ∷ row 18 (same_18 j) ∷ row 22 (same_22 j) ∷ [])

  same_rows : (x : Call) → rows_of (renumbered c ns) x ≡ rows_of c x
  same_rows Searching = same_search
  same_rows Following = (λ j. same_search j ++ (row 20 (cause (not (eqb c.used c.variables) || failing j)) ∷ []))
    where
      failing : is_found (failed_clause (variable_value (trail_of r c.used)) c.list) ≡ is_found (failed_clause (variable_value (trail_of s c.used)) c.list)
      failing = ap (λ (t : Trail). is_found (failed_clause (variable_value t) c.list)) same_begin

  module _ (x : Call) (budget : ℕ) where
    -- the call tells the same,
    pub unused_unread : (hands x (renumbered c ns) budget).outcome ≡ (hands x c budget).outcome
    unused_unread = (λ j. first_refusal (same_rows x j) (done_outcome (comes_to x c.variables c.list budget (same_begin j))))

    -- and where it is taken it leaves the same
    pub unused_left : IsTaken x c → hands x (renumbered c ns) budget ≡ hands x c budget
    unused_left ok =
        let taken : IsTaken x (renumbered c ns) = record { clear = subst (All (λ (r : Row). r.beside ≡ None)) (sym (same_rows x)) ok.clear } in
        hands-done taken budget ∙ (λ j. hands_done c.variables (comes_to x c.variables c.list budget (same_begin j))) ∙ sym (hands-done ok budget)

-- 2. Those of unused entries are written 0

module _ {x : Call} {c : Search} (ok : IsTaken x c) (budget : ℕ) where
  pub unused_zero : (i : ℕ) → (hands x c budget).outcome.third ≤ i → get_or (hands x c budget).slices.numbers i 0 ≡ 0
  unused_zero i h =
      let t : Trail = (runs x c budget).trail in
      let rest : List ℕ = replicate (c.variables - length t) 0 in
      let used = ap (λ (h : Handed). h.outcome.third) (hands-done ok budget) in
      let past : i ≡ length t + (i - length t) = omega arith in
      ap (λ (h : Handed). get_or h.slices.numbers i 0) (hands-done ok budget)
      ∙ ap (λ (k : ℕ). get_or (laid (λ e. e.number) t rest) k 0) past ∙ laid_rest (λ e. e.number) t rest (i - length t) 0
      ∙ blank 0 (c.variables - length t) (i - length t)

  -- and each used entry is explained
  pub left_explained : AllExplained c.list (ends_at (hands x c budget))
  left_explained = subst (AllExplained c.list) (sym (ends-at ok budget)) ((comes ok budget).explained (taken_explained ok))

  -- so of every entry with a number the clause leaves its literal as the only way, under the assignments that agree with the entries before it
  pub only_way_left : (i : ℕ) → i < (hands x c budget).outcome.third → ((entry_at (hands x c budget).slices i).number ≡ 0 → ⊥)
      → (a : List Bool) → Agrees a (trail_of (hands x c budget).slices i)
      → OnlyWay a (entry_at (hands x c budget).slices i).literal (clause_numbered c.list (entry_at (hands x c budget).slices i).number)
  only_way_left i h n =
      let left = (hands x c budget).slices in
      ⊎_elim (λ z. absurd (n z)) (λ e. only_way e.1) (each_at (Explained c.list) left (hands x c budget).outcome.third left_explained i h)

-- 3. After every step

module _ (v : ℕ) (ls : List ℤ) (closed : unclosed ls ≡ false) where
  leads_explained : {t u : Trail} {n : ℕ} → Leads v ls t n u → AllExplained ls t → AllExplained ls u
  leads_explained stays x = x
  leads_explained {t} (moves m l) x =
      leads_explained l (subst (KeptNext (Explained ls)) (sym (only_step v ls closed t m)) (explained_step v ls closed t x))

module _ {c : Search} where
  pub search_explained : IsTaken Searching c → {n : ℕ} {u : Trail} → Leads c.variables c.list (begins c) n u → AllExplained c.list u
  search_explained ok l = leads_explained c.variables c.list (taken_closed ok) l (taken_explained ok)

  pub next_explained : IsTaken Following c → {t u : Trail} {n : ℕ} → Undoes (begins c) (Moved t) → Leads c.variables c.list t n u
      → AllExplained c.list u
  next_explained ok d l =
      leads_explained c.variables c.list (taken_closed ok) l (explained_undo c.list _ _ (undoes_to d) (taken_explained ok))
