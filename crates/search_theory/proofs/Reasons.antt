-- The numbers of a trail: row 22 is E10's own words, what it says holds of each entry that a step makes, and what follows for the assignments that agree with
-- the entries before. Read `number-place`, `explained_step`, `explained_run` and `only_way`. Assumes nothing.
use Prim.Native.Nat.{ℕ, zero, suc, ◌+◌, ◌-◌, ◌≤◌, ◌<◌}
use native.Mathlib.Omega.{arith}
use lib.Dec.{eqb}
use lib.IntN.{ℤ, pos}
use lib.ListN.{length, get_or, take, drop, length-drop}
use lib.Seq.{get_or-drop, drop-drop}
use borrow.Author.Tests.{eqb-true, eqb-false, eq-eqb, ne_eqb, not-true, not-false}
use mathlib.Core.Path.{◌≡◌, refl, sym, ◌∙◌, ap, subst}
use mathlib.Core.Bool.{Bool, true, false, not, ◌&&◌, ◌||◌, cond}
use mathlib.Core.Logic.{◌⊎◌, inl, inr, ⊎_elim, ◌↔◌}
use Rattle.std.specs.Prelude.{Some as some}
use Rattle.std.proofs.lemmas.Option.{same_Some}
use mathlib.Core.List.Memᴰ
use mathlib.Core.List.{List, [], ◌∷◌}
use Rattle.answers.specs.First.{or_else, first_where, LeastWith}
use Rattle.answers.specs.Lists.{All, Some, ◌∈◌}
use Rattle.answers.specs.Outcome.{cause}
use Rattle.answers.proofs.Bools.{clash, off, and_both, both_and, or_cases, or_left, or_right, or_neither}
use Rattle.answers.proofs.Elements.{all_at}
use Rattle.answers.proofs.First.{first_with, first_index}
use Rattle.cnf.specs.Literals.{closes, code_of, unclosed}
use Rattle.cnf.specs.Clauses.{split, clause_count, clause_number, place_after, value}
use Rattle.cnf.proofs.Lists.{closed_rest}
use Rattle.search.specs.Trail.{Entry, entry, Trail, Slices, entry_at, trail_of, False, is_false, Values, literal_value, variable_value, Agrees}
use Rattle.search.specs.Step.{every_literal, fails, passes_but, forced_place, negated, undo, step}
use Rattle.search.specs.Run.{run}
use Rattle.search.specs.Reasons.{differs, is_reason, from_number, wrong_number, wrong_number_at, wrong_numbers}
use Rattle.search_theory.specs.Choices.{ForcingClause}
use Rattle.search_theory.specs.Reasons.{Reason, clause_numbered, HasReason, Explained, AllExplained, BreaksAt, NumbersFault, not_long, breaking, OnlyWay}
use Rattle.search_theory.proofs.Lists.{all_map, meet}
use Rattle.search_theory.proofs.OverClauses.{begins_first, Tested, every, beginning, beginning_rest}
use Rattle.search_theory.proofs.Values.{literal_false}
use Rattle.search_theory.proofs.Legal.{read_each, each_read}
use Rattle.search_theory.proofs.Choices.{is_false_lem, same_code, others_false, choice_laws}
use Rattle.search_theory.proofs.Kept.{KeptNext, kept_undo, kept_step, kept_run}

-- 1. The clause with a number, in the list as it stands

-- less its first n clauses
split_after : (ls : List ℤ) (n : ℕ) → split (drop (place_after n ls) ls) ≡ drop n (split ls)
unfolding place_after split
split_after [] zero = refl
split_after [] (suc n) = refl
split_after (l ∷ ls) n = by n (closes l) refl (split_after ls)
  where
    less : (m : ℕ) → drop (suc m) (split (l ∷ ls)) ≡ drop m (beginning (closes l) ls)
    less m =
        let e : suc m ≡ 1 + m = omega arith in
        ap (λ k. drop k (split (l ∷ ls))) e ∙ sym (drop-drop m 1 (split (l ∷ ls))) ∙ ap (drop m) (beginning_rest l ls)

    nonzero : (m : ℕ) → eqb (suc m) 0 ≡ false
    nonzero m = ne_eqb (suc m) 0 (λ e. omega arith)

    by : (n : ℕ) (z : Bool) → closes l ≡ z → ((m : ℕ) → split (drop (place_after m ls) ls) ≡ drop m (split ls))
        → split (drop (cond (eqb n 0) 0 (suc (place_after (cond z (n - 1) n) ls))) (l ∷ ls)) ≡ drop n (split (l ∷ ls))
    by zero z q go = refl
    by (suc m) true q go =
        let e : suc m - 1 ≡ m = omega arith in
        rw (nonzero m, e) (go m ∙ sym (less m ∙ ap (λ b. drop m (beginning b ls)) q))
    by (suc m) false q go =
        let e : 1 + m ≡ suc m = omega arith in
        let tail : drop (suc m) (split ls) ≡ drop m (drop 1 (split ls)) = ap (λ k. drop k (split ls)) (sym e) ∙ sym (drop-drop m 1 (split ls)) in
        rw (nonzero m) (go (suc m) ∙ tail ∙ sym (less m ∙ ap (λ b. drop m (beginning b ls)) q))

closed-drop : (ls : List ℤ) (n : ℕ) → unclosed ls ≡ false → unclosed (drop n ls) ≡ false
closed-drop ls zero h = h
closed-drop [] (suc n) h = h
closed-drop (l ∷ ls) (suc n) h = closed-drop ls n (closed_rest l ls h)

-- 2. A clause at hand is a reason

module _ (w : Values) (l : ℤ) where
  is_in : (c : List ℤ) → Some (λ k. differs l k ≡ false) c → l ∈ c
  is_in (k ∷ c) (inl h) = Memᴰ.head (sym (same_code k l (eqb-true (code_of k) (code_of l) (not-false _ h))))
  is_in (k ∷ c) (inr h) = Memᴰ.tail (is_in c h)
  is_in [] h = elim h [ ]

  -- by the two tests of its literals
  tested : (a b : Bool) (c : List ℤ) → Tested (differs l) a c → Tested (passes_but (fails w) l) b c → not a && b ≡ true ↔ Reason w l c
  tested true b c p q = (λ h. clash h refl, λ r. clash (eq-eqb (code_of l) (code_of l) refl) (not-true _ (all_at (λ k. differs l k ≡ true) p r.holds)))
  tested false true c p q = (λ h. record { holds = is_in c p; others = all_map other c q }, λ r. refl)
    where
      other : (k : ℤ) → passes_but (fails w) l k ≡ true → (k ≡ l → ⊥) → literal_value w k ≡ False
      other k h n =
          let same : eqb (code_of k) (code_of l) ≡ true → literal_value w k ≡ False = λ e. absurd (n (same_code k l (eqb-true (code_of k) (code_of l) e))) in
          ⊎_elim same (is_false_lem (literal_value w k)) (or_cases (eqb (code_of k) (code_of l)) (fails w k) h)
  tested false false c p q = (λ h. clash h refl, λ r. meet not_false_one c q r.others)
    where
      not_false_one : (k : ℤ) → passes_but (fails w) l k ≡ false → ((k ≡ l → ⊥) → literal_value w k ≡ False) → false ≡ true
      not_false_one k h f =
          let n = or_neither (eqb (code_of k) (code_of l)) (fails w k) h in
          clash (ap is_false (f (λ e. clash (eq-eqb (code_of k) (code_of l) (ap code_of e)) n.0))) n.1

module _ (ls : List ℤ) (closed : unclosed ls ≡ false) where
  -- the clause with a number is a reason
  reason_exactly : (w : Values) (l : ℤ) (n : ℕ) → 1 ≤ n
      → is_reason (fails w) l (from_number ls n) ≡ true ↔ ((n ≤ length (split ls)) × Reason w l (clause_numbered ls n))
  unfolding every_literal split
  reason_exactly w l n h = by (from_number ls n) refl
    where
      rest : (xs : List ℤ) → from_number ls n ≡ xs → split xs ≡ drop (n - 1) (split ls)
      rest xs e = ap split (sym e) ∙ split_after ls (n - 1)

      by : (xs : List ℤ) → from_number ls n ≡ xs → is_reason (fails w) l xs ≡ true ↔ ((n ≤ length (split ls)) × Reason w l (clause_numbered ls n))
      by [] e = (λ h. clash h refl, λ r. let none = ap length (rest [] e) ∙ length-drop (n - 1) (split ls) in let few = r.0 in absurd (omega arith))
      by (x ∷ xs) e = (λ h. (few, is.0 h), λ r. is.1 r.1)
        where
          shut : unclosed (x ∷ xs) ≡ false
          shut = ap unclosed (sym e) ∙ closed-drop ls (place_after (n - 1) ls) closed

          first : get_or (split (x ∷ xs)) 0 [] ≡ clause_numbered ls n
          first =
              let z : n - 1 + 0 ≡ n - 1 = omega arith in
              ap (λ cs. get_or cs 0 []) (rest (x ∷ xs) e) ∙ get_or-drop (n - 1) (split ls) 0 [] ∙ ap (λ k. get_or (split ls) k []) z

          at : (p : ℤ → Bool) → Tested p (every_literal p (x ∷ xs)) (clause_numbered ls n)
          at p = subst (Tested p (every_literal p (x ∷ xs))) first (begins_first (every p x xs shut))

          few : n ≤ length (split ls)
          few =
              let more = ap length (sym (every (differs l) x xs shut).splits ∙ rest (x ∷ xs) e) ∙ length-drop (n - 1) (split ls) in
              omega arith

          is : is_reason (fails w) l (x ∷ xs) ≡ true ↔ Reason w l (clause_numbered ls n)
          is =
              let has = every_literal (differs l) (x ∷ xs) in
              let others = every_literal (passes_but (fails w) l) (x ∷ xs) in
              tested w l has others (clause_numbered ls n) (at (differs l)) (at (passes_but (fails w) l))

  has_reason : (t : Trail) (e : Entry) → (e.number ≡ 0 → ⊥)
      → is_reason (fails (variable_value t)) e.literal (from_number ls e.number) ≡ true ↔ HasReason ls t e
  has_reason t e n =
      let from : 1 ≤ e.number = omega arith in
      let is = reason_exactly (variable_value t) e.literal e.number from in
      (λ h. let r = is.0 h in record { from_1 = from; to_last = r.0; reason = r.1 }, λ r. is.1 (r.to_last, r.reason))

  -- 3. Row 22

  explained_exactly : (t : Trail) (e : Entry) → wrong_number (fails (variable_value t)) ls e ≡ false ↔ Explained ls t e
  explained_exactly t e = by (eqb e.number 0) refl
    where
      r : Bool
      r = is_reason (fails (variable_value t)) e.literal (from_number ls e.number)

      by : (z : Bool) → eqb e.number 0 ≡ z → not z && (eqb e.mark 1 || not r) ≡ false ↔ Explained ls t e
      by true q = (λ h. inl (eqb-true e.number 0 q), λ x. refl)
      by false q = (λ h. inr (to h), ⊎_elim (λ z. absurd (nonzero z)) (λ x. rw (ne_eqb e.mark 1 x.0, (has_reason t e nonzero).1 x.1) refl))
        where
          nonzero : e.number ≡ 0 → ⊥
          nonzero = eqb-false e.number 0 q

          to : eqb e.mark 1 || not r ≡ false → (e.mark ≡ 1 → ⊥) × HasReason ls t e
          to h = let n = or_neither (eqb e.mark 1) (not r) h in (eqb-false e.mark 1 n.0, (has_reason t e nonzero).0 (not-false r n.1))

  module _ (s : Slices) where
    fault_exactly : (i : ℕ) → wrong_number_at ls s i ≡ true ↔ BreaksAt ls s i
    fault_exactly i = (to, from)
      where
        e : Entry
        e = entry_at s i

        r : Bool
        r = is_reason (fails (variable_value (trail_of s i))) e.literal (from_number ls e.number)

        to : wrong_number_at ls s i ≡ true → BreaksAt ls s i
        to h =
            let b = and_both (not (eqb e.number 0)) (eqb e.mark 1 || not r) h in
            let nonzero = eqb-false e.number 0 (not-true _ b.0) in
            let broken : r ≡ false → HasReason ls (trail_of s i) e → ⊥ = λ q x. clash ((has_reason (trail_of s i) e nonzero).1 x) q in
            record {
              nonzero = nonzero;
              breaks = ⊎_elim (λ q. inl (eqb-true e.mark 1 q)) (λ q. inr (broken (not-true r q))) (or_cases (eqb e.mark 1) (not r) b.1);
            }

        from : BreaksAt ls s i → wrong_number_at ls s i ≡ true
        from f =
            let marked : e.mark ≡ 1 → eqb e.mark 1 || not r ≡ true = λ m. or_left (eqb e.mark 1) (not r) (eq-eqb e.mark 1 m) in
            let broken : (HasReason ls (trail_of s i) e → ⊥) → eqb e.mark 1 || not r ≡ true =
            λ n. or_right (eqb e.mark 1) (not r) (ap not (off r (λ q. n ((has_reason (trail_of s i) e f.nonzero).0 q)))) in
            both_and (not (eqb e.number 0)) (eqb e.mark 1 || not r) (ap not (ne_eqb e.number 0 f.nonzero)) (⊎_elim marked broken f.breaks)

    -- beside 22 stands 0 where the third slice is not V long, else the first used entry that breaks this
    pub number-place : (v used i : ℕ) → wrong_numbers v ls s used ≡ some i ↔ NumbersFault v ls s used i
    number-place v used i = by (eqb (length s.numbers) v) refl
      where
        first : (j : ℕ) → first_where (wrong_number_at ls s) used ≡ some j ↔ LeastWith (BreaksAt ls s) used j
        first = first_with (wrong_number_at ls s) (BreaksAt ls s) used (λ k h. fault_exactly k)

        by : (z : Bool) → eqb (length s.numbers) v ≡ z
            → or_else (cause (not z)) (first_where (wrong_number_at ls s) used) ≡ some i ↔ NumbersFault v ls s used i
        by false q = (λ e. subst (NumbersFault v ls s used) (same_Some 0 i e) (not_long (eqb-false (length s.numbers) v q)), from i)
          where
            from : (j : ℕ) → NumbersFault v ls s used j → some 0 ≡ some j
            from j (not_long n) = refl
            from j (breaking e l) = absurd (eqb-false (length s.numbers) v q e)
        by true q = (λ e. breaking (eqb-true (length s.numbers) v q) ((first i).0 e), from i)
          where
            from : (j : ℕ) → NumbersFault v ls s used j → first_where (wrong_number_at ls s) used ≡ some j
            from j (not_long n) = absurd (n (eqb-true (length s.numbers) v q))
            from j (breaking e l) = (first j).1 l

  -- no used entry breaks it exactly if each is explained
  module _ (s : Slices) where
    pub read_explained : (n : ℕ) → ((i : ℕ) → i < n → wrong_number_at ls s i ≡ false) → AllExplained ls (trail_of s n)
    read_explained = read_each (λ t e. wrong_number (fails (variable_value t)) ls e) explained_exactly s

    pub explained_read : (n : ℕ) → AllExplained ls (trail_of s n) → (i : ℕ) → i < n → wrong_number_at ls s i ≡ false
    explained_read = each_read (λ t e. wrong_number (fails (variable_value t)) ls e) explained_exactly s

-- 4. What a step keeps

unnumbered : {ls : List ℤ} (t : Trail) (e : Entry) → Explained ls t (negated e)
unnumbered t e = inl refl

pub explained_undo : (ls : List ℤ) (t u : Trail) → undo t ≡ some u → AllExplained ls t → AllExplained ls u
explained_undo ls = kept_undo (Explained ls) unnumbered

module _ (v : ℕ) (ls : List ℤ) (closed : unclosed ls ≡ false) where
  -- the clause that forces a literal is its reason
  forced_explained : (t : Trail) (i : ℕ) → forced_place (variable_value t) ls ≡ some i → Explained ls t (entry (get_or ls i (pos 0)) 0 (clause_number ls i))
  forced_explained t i h = inr (λ z. absurd (omega arith), record { from_1 = omega arith; to_last = omega (arith, within.0); reason = behind })
    where
      w : Values
      w = variable_value t

      f : ForcingClause w ls (clause_count (take i ls)) (get_or ls i (pos 0))
      f = (choice_laws v ls w closed).forced h

      within : (clause_count (take i ls) < length (split ls)) × (get_or (split ls) (clause_count (take i ls)) [] ≡ f.clause)
      within = first_index [] f.first

      behind : Reason w (get_or ls i (pos 0)) (clause_numbered ls (clause_number ls i))
      behind =
          let z : clause_number ls i - 1 ≡ clause_count (take i ls) = omega arith in
          rw z (rw within.1 (record { holds = f.forces.holds; others = all_map other f.clause (others_false w f.clause f.forces) }))
        where
          other : (k : ℤ) → (k ≡ get_or ls i (pos 0)) ⊎ (fails w k ≡ true) → (k ≡ get_or ls i (pos 0) → ⊥) → literal_value w k ≡ False
          other k (inl e) n = absurd (n e)
          other k (inr q) n = is_false_lem (literal_value w k) q

  pub explained_step : (t : Trail) → AllExplained ls t → KeptNext (Explained ls) (step v ls t)
  explained_step = kept_step (Explained ls) unnumbered v ls forced_explained (λ t n e. inl refl)

  pub explained_run : (b : ℕ) (t : Trail) → AllExplained ls t → AllExplained ls (run v ls b t).trail
  explained_run = kept_run (Explained ls) unnumbered v ls forced_explained (λ t n e. inl refl)

-- 5. Why an entry was forced: under the assignments that agree with the entries before it the clause leaves its literal as the only way.

pub only_way : {ls : List ℤ} {t : Trail} {e : Entry} → HasReason ls t e → (a : List Bool) → Agrees a t → OnlyWay a e.literal (clause_numbered ls e.number)
only_way {ls} {t} {e} r a g =
    record {
      holds = r.reason.holds;
      no_other = no_other;
      forced = λ s. meet (λ k q f. ap (value a) (sym (f q)) ∙ q) (clause_numbered ls e.number) s no_other;
    }
  where
    is : (k : ℤ) → ((k ≡ e.literal → ⊥) → literal_value (variable_value t) k ≡ False) → value a k ≡ true → k ≡ e.literal
    is k f q = by (eqb (code_of k) (code_of e.literal)) refl
      where
        by : (z : Bool) → eqb (code_of k) (code_of e.literal) ≡ z → k ≡ e.literal
        by true h = same_code k e.literal (eqb-true _ _ h)
        by false h = clash q (literal_false a t g k (ap is_false (f (λ x. eqb-false _ _ h (ap code_of x)))))

    no_other : All (λ k. value a k ≡ true → k ≡ e.literal) (clause_numbered ls e.number)
    no_other = all_map is (clause_numbered ls e.number) r.reason.others
