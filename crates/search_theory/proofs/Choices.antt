-- The laws of a step's three choices: what is found is the first failed clause, the clause that forces a literal and is to be taken, the lowest unassigned
-- variable, and where nothing is found there is none. The theory rests on the record `Laws` and never looks at how a choice is sought. Assumes nothing.
use Prim.Native.Nat.{ℕ, zero, suc, ◌+◌, ◌≤◌, ◌<◌}
use native.Mathlib.Omega.{arith}
use lib.Dec.{eqb, ltb}
use lib.IntN.{ℤ, pos, negsuc, nat_abs}
use lib.ListN.{length, get_or, take, drop}
use lib.Seq.{get_or-drop}
use borrow.Author.Tests.{eqb-true, eq-eqb, not-false, ltb-true, ltb-false}
use mathlib.Core.Path.{◌≡◌, refl, sym, ◌∙◌, ap, subst}
use mathlib.Core.Bool.{Bool, true, false, cond}
use mathlib.Core.Logic.{◌⊎◌, inl, inr, ⊎_elim, ◌↔◌}
use Rattle.std.specs.Prelude.{Option, None as none, Some as some}
use mathlib.Core.List.Memᴰ
use mathlib.Core.List.{List, [], ◌∷◌}
use Rattle.answers.specs.First.{found, or_else, FirstIn, here, later, NoneIn}
use Rattle.answers.specs.Lists.{All, Some, ◌∈◌}
use Rattle.answers.proofs.Bools.{clash, off, or_cases, or_neither}
use Rattle.answers.proofs.Elements.{all_at}
use Rattle.answers.proofs.Lists.{many_parted}
use Rattle.answers.proofs.First.{first_with, none_with, first_holds, first_some_in, not_none, only_first, only_least}
use Rattle.cnf.specs.Literals.{closes, code_of, variable_at, unclosed}
use Rattle.cnf.specs.Clauses.{split, clause_count, clause_number}
use Rattle.cnf.proofs.Lists.{closed_rest, split_count}
use Rattle.search.specs.Trail.{Value, True, False, Unassigned, is_false, is_unassigned, literal_value, Values}
use Rattle.search.specs.Step.{every_literal, fails, failed_at, fails_but, by_value, forced_at, failed_clause, lower_place, forced_place}
use Rattle.search.specs.Step.{lowest_unassigned}
use Rattle.search_theory.specs.Choices.{AllFalse, Forces, ForcesOne, ForcesVariable, FailedClause, NoneFailed, LowestForced, ForcingClause}
use Rattle.search_theory.specs.Choices.{NoneForcing, LowestUnassigned, NoneUnassigned}
use Rattle.search_theory.proofs.Lists.{nothing, found_some, all_map, all_zip, meet}
use Rattle.search_theory.proofs.Legal.{AllAssigned, unassigned}
use Rattle.search_theory.proofs.OverClauses.{Begins, begins-closed, begins_same, begins_more, Tested, every, tail_drop, over-clauses}

-- the laws, of any way to choose
pub record Laws (v : ℕ) (ls : List ℤ) (w : Values) : Type 0 where
  pub failed : {i : ℕ} → failed_clause w ls ≡ some i → (k : ℕ) × FailedClause w ls k
  pub none_failed : failed_clause w ls ≡ none → NoneFailed w ls
  pub forced : {i : ℕ} → forced_place w ls ≡ some i → ForcingClause w ls (clause_count (take i ls)) (get_or ls i (pos 0))
  pub none_forced : forced_place w ls ≡ none → NoneForcing w ls
  pub free : {n : ℕ} → lowest_unassigned v w ≡ some n → LowestUnassigned w v (suc n)
  pub none_free : lowest_unassigned v w ≡ none → NoneUnassigned w v

-- 1. Clauses that fail, and that force

pub is_false_lem : (x : Value) → is_false x ≡ true → x ≡ False
is_false_lem True h = clash h refl
is_false_lem False h = refl
is_false_lem Unassigned h = clash h refl

-- two literals with the same code
pub same_code : (k l : ℤ) → code_of k ≡ code_of l → k ≡ l
same_code (pos m) (pos n) e = ap pos (omega arith)
same_code (pos m) (negsuc n) e = absurd (omega arith)
same_code (negsuc m) (pos n) e = absurd (omega arith)
same_code (negsuc m) (negsuc n) e = ap negsuc (omega arith)

-- a clause that forces a literal: it holds that, which is unassigned, and its other literals are false
module _ (w : Values) {l : ℤ} (c : List ℤ) where
  pub others_false : Forces w l c → All (λ k. (k ≡ l) ⊎ (fails w k ≡ true)) c
  others_false f = all_zip (λ k. by (literal_value w k)) c f.none_true f.all_one
    where
      by : {k : ℤ} (x : Value) → (x ≡ True → ⊥) → (x ≡ Unassigned → k ≡ l) → (k ≡ l) ⊎ (is_false x ≡ true)
      by True t u = absurd (t refl)
      by False t u = inr refl
      by Unassigned t u = inl (u refl)

  forces_by : literal_value w l ≡ Unassigned → l ∈ c → All (λ k. (k ≡ l) ⊎ (fails w k ≡ true)) c → Forces w l c
  forces_by u m h =
      record {
        none_true = all_map (λ k. ⊎_elim (λ e t. clash refl (ap is_unassigned (sym u ∙ sym (ap (literal_value w) e) ∙ t))) (λ s t. clash s (ap is_false t))) c h;
        holds = m;
        unassigned = u;
        all_one = all_map (λ k. ⊎_elim (λ e t. e) (λ s t. clash s (ap is_false t))) c h;
      }

module _ (w : Values) (whole : List ℤ) where
  abbrev FailedHere : Option ℕ → List ℤ → Type 0
  FailedHere none c = AllFalse w c → ⊥
  FailedHere (some p) c = AllFalse w c

  failed-at : (i : ℕ) (l : ℤ) (ls : List ℤ) → unclosed (l ∷ ls) ≡ false → (l ∷ ls) ≡ drop i whole → Begins (FailedHere (failed_at w i (l ∷ ls))) (l ∷ ls)
  failed-at i l ls u e = by (every_literal (fails w) (l ∷ ls)) (every (fails w) l ls u)
    where
      by : (t : Bool) → Begins (Tested (fails w) t) (l ∷ ls) → Begins (FailedHere (found t i none)) (l ∷ ls)
      by true b = begins_same (λ c h. all_map (λ k. is_false_lem (literal_value w k)) c h) b
      by false b = begins_same (λ c h f. meet (λ k x y. clash (ap is_false y) x) c h f) b

  -- the place that is answered is that of the literal which the clause forces
  abbrev ForcedHere : Option ℕ → List ℤ → Type 0
  ForcedHere none c = ForcesOne w c → ⊥
  ForcedHere (some p) c = Forces w (get_or whole p (pos 0)) c

  not_empty : {A : Type 0} → ForcesOne w [] → A
  not_empty f = absurd (Memᴰ.not-nil f.1.holds)

  forced-at : (i : ℕ) (l : ℤ) (ls : List ℤ) → unclosed (l ∷ ls) ≡ false → (l ∷ ls) ≡ drop i whole → Begins (ForcedHere (forced_at w i (l ∷ ls))) (l ∷ ls)
  unfolding forced_at
  forced-at i l [] u e = let z = not-false (closes l) u in rw z (begins-closed l [] z not_empty)
  forced-at i l (m ∷ ls) u e =
      by (closes l) refl (literal_value w l) refl (forced_at w (suc i) (m ∷ ls))
      (forced-at (suc i) m ls (closed_rest l (m ∷ ls) u) (tail_drop whole i l (m ∷ ls) e))
      (every_literal (fails_but w l) (m ∷ ls)) (every (fails_but w l) m ls (closed_rest l (m ∷ ls) u))
    where
      is : l ≡ get_or whole i (pos 0)
      is = let z : i + 0 ≡ i = omega arith in ap (λ xs. get_or xs 0 (pos 0)) e ∙ get_or-drop i whole 0 (pos 0) ∙ ap (λ k. get_or whole k (pos 0)) z

      -- a literal more, which is false
      further : {k : ℤ} → literal_value w l ≡ False → (c : List ℤ) → Forces w k c → Forces w k (l ∷ c)
      further q c f = forces_by w (l ∷ c) f.unassigned (Memᴰ.tail f.holds) (inr (ap is_false q), others_false w c f)

      fewer : {k : ℤ} → literal_value w l ≡ False → (c : List ℤ) → Forces w k (l ∷ c) → Forces w k c
      fewer {k} q c f = forces_by w c f.unassigned (⊎_elim other (λ h. h) (Memᴰ.cases_cons f.holds)) (others_false w (l ∷ c) f).1
        where
          other : k ≡ l → k ∈ c
          other r = clash refl (ap is_false (sym q ∙ sym (ap (literal_value w) r) ∙ f.unassigned))

      -- the first that is not false is unassigned,
      first : literal_value w l ≡ Unassigned → (c : List ℤ) → All (λ k. fails_but w l k ≡ true) c → Forces w l (l ∷ c)
      first q c h = forces_by w (l ∷ c) q (Memᴰ.head refl) (inl refl, all_map same c h)
        where
          same : (k : ℤ) → fails_but w l k ≡ true → (k ≡ l) ⊎ (fails w k ≡ true)
          same k h = ⊎_elim (λ q. inl (same_code k l (eqb-true (code_of k) (code_of l) q))) inr (or_cases (eqb (code_of k) (code_of l)) (fails w k) h)

      -- but another one is neither false nor the same
      second : literal_value w l ≡ Unassigned → (c : List ℤ) → Some (λ k. fails_but w l k ≡ false) c → ForcesOne w (l ∷ c) → ⊥
      second q c h f = meet at c h (others_false w (l ∷ c) f.1).1
        where
          at : (k : ℤ) → fails_but w l k ≡ false → (k ≡ f.0) ⊎ (fails w k ≡ true) → ⊥
          at k r o =
              let n = or_neither (eqb (code_of k) (code_of l)) (fails w k) r in
              ⊎_elim (λ e. clash (eq-eqb (code_of k) (code_of l) (ap code_of (e ∙ sym (f.1.all_one.0 q)))) n.0) (λ s. clash s n.1) o

      by : (z : Bool) → closes l ≡ z → (x : Value) → literal_value w l ≡ x → (rest : Option ℕ) → Begins (ForcedHere rest) (m ∷ ls)
          → (t : Bool) → Begins (Tested (fails_but w l) t) (m ∷ ls) → Begins (ForcedHere (cond z none (by_value x (found t i none) rest))) (l ∷ m ∷ ls)
      by true q x r rest go t b = begins-closed l (m ∷ ls) q not_empty
      by false q True r rest go t b = begins_more l (m ∷ ls) q (λ c h f. f.1.none_true.0 r) go
      by false q False r none go t b = begins_more l (m ∷ ls) q (λ c h f. h (f.0, fewer r c f.1)) go
      by false q False r (some p) go t b = begins_more l (m ∷ ls) q (λ c h. further r c h) go
      by false q Unassigned r rest go true b =
          begins_more l (m ∷ ls) q (λ c h. subst (λ k. Forces w k (l ∷ c)) is (first r c h)) b
      by false q Unassigned r rest go false b = begins_more l (m ∷ ls) q (second r) b

  -- no clause is closed between the place where the clause begins and that
  in_clause : (i p : ℕ) (ls : List ℤ) → ls ≡ drop i whole → forced_at w i ls ≡ some p → clause_count (drop p whole) ≡ clause_count ls
  unfolding forced_at
  in_clause i p [] e f = nothing f
  in_clause i p (l ∷ ls) e f = by (closes l) refl (literal_value w l) (every_literal (fails_but w l) ls) f (in_clause (suc i) p ls (tail_drop whole i l ls e))
    where
      by : (z : Bool) → closes l ≡ z → (x : Value) (t : Bool) → cond z none (by_value x (found t i none) (forced_at w (suc i) ls)) ≡ some p
          → (forced_at w (suc i) ls ≡ some p → clause_count (drop p whole) ≡ clause_count ls) → clause_count (drop p whole) ≡ clause_count (l ∷ ls)
      by true q x t f go = nothing f
      by false q True t f go = nothing f
      by false q False t f go = rw q (go f)
      by false q Unassigned t f go = ap (λ k. clause_count (drop k whole)) (sym (found_some t i f).1) ∙ ap clause_count (sym e)

  -- with the number of clauses from it on
  abbrev ForcedIn : Option ℕ → ℕ → List ℤ → Type 0
  ForcedIn none n c = ForcesOne w c → ⊥
  ForcedIn (some p) n c = Forces w (get_or whole p (pos 0)) c × (clause_count (drop p whole) ≡ n)

  forced_in : (i : ℕ) (l : ℤ) (ls : List ℤ) → unclosed (l ∷ ls) ≡ false → (l ∷ ls) ≡ drop i whole
      → Begins (ForcedIn (forced_at w i (l ∷ ls)) (clause_count (l ∷ ls))) (l ∷ ls)
  forced_in i l ls u e = by (forced_at w i (l ∷ ls)) refl (forced-at i l ls u e)
    where
      by : (o : Option ℕ) → forced_at w i (l ∷ ls) ≡ o → Begins (ForcedHere o) (l ∷ ls) → Begins (ForcedIn o (clause_count (l ∷ ls))) (l ∷ ls)
      by none q b = b
      by (some p) q b = begins_same (λ c h. (h, in_clause i p (l ∷ ls) e q)) b

-- 2. Of clauses that force a literal, the first of those with the lowest variable

module _ (w : Values) where
  one_literal : {k l : ℤ} (c : List ℤ) → Forces w k c → Forces w l c → k ≡ l
  one_literal {l = l} c f g = all_at (λ k. literal_value w k ≡ Unassigned → k ≡ l) g.all_one f.holds f.unassigned

  -- so it forces no other variable
  other_variable : {l : ℤ} {m : ℕ} (c : List ℤ) → Forces w l c → (nat_abs l ≡ m → ⊥) → ForcesVariable w m c → ⊥
  other_variable c f n g = n (ap nat_abs (one_literal c f g.1) ∙ g.2)

  -- n are the clauses from that clause on
  record LowestIn (l : ℤ) (n : ℕ) (cs : List (List ℤ)) : Type 0 where
    index : ℕ
    from : index + n ≡ length cs
    clause : List ℤ
    first : FirstIn (ForcesVariable w (nat_abs l)) cs index clause
    forces : Forces w l clause
    lower : (m : ℕ) → m < nat_abs l → NoneIn (ForcesVariable w m) cs

  -- a clause before them: it is the one,
  module _ {l : ℤ} {n : ℕ} {cs : List (List ℤ)} (c : List ℤ) where
    lowest_here : Forces w l c → n ≡ length (c ∷ cs) → ((m : ℕ) → m < nat_abs l → NoneIn (ForcesVariable w m) cs) → LowestIn l n (c ∷ cs)
    lowest_here f e low =
        record {
          index = 0;
          from = omega arith;
          clause = c;
          first = here (l, f, refl);
          forces = f;
          lower = λ m b. (other_variable c f (omega arith), low m b);
        }

    -- or forces neither that variable nor a lower one
    lowest_later : LowestIn l n cs → ((m : ℕ) → m ≤ nat_abs l → ForcesVariable w m c → ⊥) → LowestIn l n (c ∷ cs)
    lowest_later x not =
        record {
          index = suc x.index;
          from = let h = x.from in omega arith;
          clause = x.clause;
          first = later (not (nat_abs l) (omega arith)) x.first;
          forces = x.forces;
          lower = λ m b. (not m (omega arith), x.lower m b);
        }

  forcing : {l : ℤ} {n : ℕ} {ls : List ℤ} (x : LowestIn l n (split ls)) → ForcingClause w ls x.index l
  forcing {l} x =
      record {
        clause = x.clause;
        lowest = record { forced = first_some_in (ForcesVariable w (nat_abs l)) x.first (first_holds x.first); lower = x.lower };
        first = x.first;
        forces = x.forces;
      }

-- 3. The laws

module _ (v : ℕ) (ls : List ℤ) (w : Values) (closed : unclosed ls ≡ false) where
  abbrev Failed : Option ℕ → List (List ℤ) → Type 0
  Failed none cs = NoneIn (AllFalse w) cs
  Failed (some p) cs = (k : ℕ) × (c : List ℤ) × FirstIn (AllFalse w) cs k c

  failed_joins : (o rest : Option ℕ) (c : List ℤ) (cs : List (List ℤ)) → FailedHere w ls o c → Failed rest cs → Failed (or_else o rest) (c ∷ cs)
  failed_joins (some p) rest c cs h go = (0, c, here h)
  failed_joins none none c cs h go = (h, go)
  failed_joins none (some p) c cs h go = let (k, d, f) = go in (suc k, d, later h f)

  first_failed : Failed (failed_clause w ls) (split ls)
  unfolding failed_clause
  first_failed = over-clauses or_else (failed_at w) ls (λ o n c. FailedHere w ls o c) Failed tt failed_joins (failed-at w ls) true 0 ls closed refl

  abbrev Forced : Option ℕ → List (List ℤ) → Type 0
  Forced none cs = NoneIn (ForcesOne w) cs
  Forced (some p) cs = LowestIn w (get_or ls p (pos 0)) (clause_count (drop p ls)) cs

  forced_joins : (o rest : Option ℕ) (c : List ℤ) (cs : List (List ℤ)) → ForcedIn w ls o (length (c ∷ cs)) c → Forced rest cs
      → Forced (lower_place ls o rest) (c ∷ cs)
  forced_joins none none c cs h go = (h, go)
  forced_joins none (some q) c cs h go = lowest_later w c go (λ m b f. h (f.0, f.1))
  forced_joins (some p) none c cs h go = lowest_here w c h.0 h.1 (λ m l. all_map (λ d n f. n (f.0, f.1)) cs go)
  forced_joins (some p) (some q) c cs h go = by (ltb (variable_at ls q) (variable_at ls p)) refl
    where
      by : (b : Bool) → ltb (variable_at ls q) (variable_at ls p) ≡ b → Forced (found b q (some p)) (c ∷ cs)
      by true e = let l = ltb-true (variable_at ls q) (variable_at ls p) e in lowest_later w c go (λ m b. other_variable w c h.0 (omega arith))
      by false e = let l = ltb-false (variable_at ls q) (variable_at ls p) e in lowest_here w c h.0 h.1 (λ m b. go.lower m (omega arith))

  lowest_forced : Forced (forced_place w ls) (split ls)
  unfolding forced_place
  lowest_forced = over-clauses (lower_place ls) (forced_at w) ls (ForcedIn w ls) Forced tt forced_joins (forced_in w ls) true 0 ls closed refl

  -- its index is the number of clauses before it
  numbered : (p : ℕ) → LowestIn w (get_or ls p (pos 0)) (clause_count (drop p ls)) (split ls) → ForcingClause w ls (clause_count (take p ls)) (get_or ls p (pos 0))
  numbered p x =
      let from = x.from in
      let index : x.index ≡ clause_count (take p ls) = omega (arith, split_count ls closed, many_parted closes ls p) in
      subst (λ k. ForcingClause w ls k (get_or ls p (pos 0))) index (forcing w x)

  unassigned_at : (n : ℕ) → n < v → is_unassigned (w (suc n)) ≡ true ↔ w (suc n) ≡ Unassigned
  unassigned_at n h = (unassigned (w (suc n)), ap is_unassigned)

  pub choice_laws : Laws v ls w
  unfolding lowest_unassigned
  choice_laws =
      record {
        failed = λ e. let (k, c, f) = subst (λ o. Failed o (split ls)) e first_failed in (k, record { clause = c; first = f });
        none_failed = λ e. subst (λ o. Failed o (split ls)) e first_failed;
        forced = λ {i} e. numbered i (subst (λ o. Forced o (split ls)) e lowest_forced);
        none_forced = λ e. subst (λ o. Forced o (split ls)) e lowest_forced;
        free = λ {n} e.
            let l = (first_with _ (λ n. w (suc n) ≡ Unassigned) v unassigned_at n).0 e in
            let b = l.below in
            record { from_1 = omega arith; to_V = omega arith; unassigned = l.holds; lower = variables n l.first };
        none_free = λ e n h k. variables v ((none_with _ (λ n. w (suc n) ≡ Unassigned) v unassigned_at).0 e) n h (omega arith);
      }
    where
      -- by numbers from 1
      variables : (n : ℕ) → ((k : ℕ) → k < n → w (suc k) ≡ Unassigned → ⊥) → (m : ℕ) → 1 ≤ m → m < suc n → w m ≡ Unassigned → ⊥
      variables n f zero h l = absurd (omega arith)
      variables n f (suc m) h l = f m (omega arith)

-- 4. No other is taken

module _ (w : Values) {ls : List ℤ} where
  pub forcing_some : {k : ℕ} {l : ℤ} → ForcingClause w ls k l → Some (Forces w l) (split ls)
  forcing_some {l = l} f = first_some_in (Forces w l) f.first f.forces

  -- one clause, one literal
  pub only_forcing : {i j : ℕ} {k l : ℤ} → ForcingClause w ls i k → ForcingClause w ls j l → (i ≡ j) × (k ≡ l)
  only_forcing {i} {l = l} f g =
      let forced : ℕ → Type 0 = λ n. Some (ForcesVariable w n) (split ls) in
      let variable = only_least forced f.lowest.forced (none_lower f.lowest) g.lowest.forced (none_lower g.lowest) in
      let (e, same) = only_first g.first (subst (λ n. FirstIn (ForcesVariable w n) (split ls) i f.clause) variable f.first) in
      (sym e, one_literal w f.clause f.forces (subst (Forces w l) same g.forces))
    where
      none_lower : {n : ℕ} → LowestForced w ls n → (m : ℕ) → m < n → Some (ForcesVariable w m) (split ls) → ⊥
      none_lower x m h s = meet (λ c p q. q p) (split ls) s (x.lower m h)

not_none_forcing : (w : Values) (ls : List ℤ) {k : ℕ} {l : ℤ} → ForcingClause w ls k l → NoneForcing w ls → ⊥
not_none_forcing w ls {l = l} f n = meet (λ c h no_one. no_one (l, h)) (split ls) (forcing_some w f) n

-- 5. So a clause or a variable is found exactly if there is one

is_none : (o : Option ℕ) → ((i : ℕ) → o ≡ some i → ⊥) → o ≡ none
is_none none f = refl
is_none (some i) f = absurd (f i refl)

is_some : (o : Option ℕ) → (o ≡ none → ⊥) → (i : ℕ) × (o ≡ some i)
is_some none f = absurd (f refl)
is_some (some i) f = (i, refl)

module _ {v : ℕ} {ls : List ℤ} {w : Values} (law : Laws v ls w) where
  pub failed_none : failed_clause w ls ≡ none ↔ NoneFailed w ls
  failed_none = (law.none_failed, λ h. is_none (failed_clause w ls) (λ i e. not_none (law.failed e).1.first h))

  pub forced_none : forced_place w ls ≡ none ↔ NoneForcing w ls
  forced_none = (law.none_forced, λ h. is_none (forced_place w ls) (λ i e. not_none_forcing w ls (law.forced e) h))

  pub free_none : lowest_unassigned v w ≡ none ↔ NoneUnassigned w v
  free_none = (
    law.none_free,
    λ h. is_none (lowest_unassigned v w) (λ n e. let f = law.free e in h (suc n) f.from_1 f.to_V f.unassigned),
  )

  -- the clause, the literal and the variable that are found are the only ones
  pub failed_found : {k : ℕ} → FailedClause w ls k → (i : ℕ) × (failed_clause w ls ≡ some i)
  failed_found f = is_some (failed_clause w ls) (λ e. not_none f.first (law.none_failed e))

  pub forcing_found : Some (ForcesOne w) (split ls) → (k : ℕ) × (l : ℤ) × ForcingClause w ls k l
  forcing_found s =
      let (i, e) = is_some (forced_place w ls) (λ e. meet (λ c f n. n f) (split ls) s (law.none_forced e)) in
      (clause_count (take i ls), get_or ls i (pos 0), law.forced e)

  pub forced_found : {k : ℕ} {l : ℤ} → ForcingClause w ls k l
      → (i : ℕ) × (forced_place w ls ≡ some i) × (suc k ≡ clause_number ls i) × (l ≡ get_or ls i (pos 0))
  forced_found f =
      let (i, e) = is_some (forced_place w ls) (λ e. not_none_forcing w ls f (law.none_forced e)) in
      let (clause, literal) = only_forcing w f (law.forced e) in
      (i, e, ap suc clause, literal)

  pub free_found : {n : ℕ} → LowestUnassigned w v n → (i : ℕ) × (lowest_unassigned v w ≡ some i) × (n ≡ suc i)
  free_found {n} f =
      let (i, e) = is_some (lowest_unassigned v w) (λ e. law.none_free e n f.from_1 f.to_V f.unassigned) in
      (i, e, one (law.free e))
    where
      lower : {m : ℕ} → LowestUnassigned w v m → (k : ℕ) → k < m → (1 ≤ k) × (w k ≡ Unassigned) → ⊥
      lower x k h u = x.lower k u.0 h u.1

      one : {m : ℕ} → LowestUnassigned w v m → n ≡ m
      one g = only_least (λ k. (1 ≤ k) × (w k ≡ Unassigned)) (f.from_1, f.unassigned) (lower f) (g.from_1, g.unassigned) (lower g)

-- 6. What the theory takes from them

module _ (w : Values) where
  pub failed_some : {ls : List ℤ} {k : ℕ} → FailedClause w ls k → Some (AllFalse w) (split ls)
  failed_some {ls} f = first_some_in (AllFalse w) f.first (first_holds f.first)

  -- a literal that is not false
  pub none_failed_each : (ls : List ℤ) → NoneFailed w ls → All (Some (λ k. fails w k ≡ false)) (split ls)
  none_failed_each ls h = all_map not_all (split ls) h
    where
      not_all : (c : List ℤ) → (AllFalse w c → ⊥) → Some (λ k. fails w k ≡ false) c
      not_all [] f = f tt
      not_all (k ∷ c) f = by (literal_value w k) refl (λ q. not_all c (λ r. f (q, r)))
        where
          by : (x : Value) → literal_value w k ≡ x → (literal_value w k ≡ False → Some (λ k. fails w k ≡ false) c) → Some (λ k. fails w k ≡ false) (k ∷ c)
          by True q go = inl (ap is_false q)
          by False q go = inr (go q)
          by Unassigned q go = inl (ap is_false q)

  pub all_assigned : (v : ℕ) → NoneUnassigned w v → AllAssigned v w
  all_assigned v f n h = off (is_unassigned (w (suc n))) (λ e. f (suc n) (omega arith) (omega arith) (unassigned (w (suc n)) e))

  pub lower-assigned : {v n : ℕ} → LowestUnassigned w v (suc n) → AllAssigned n w
  lower-assigned l m h = off (is_unassigned (w (suc m))) (λ e. l.lower (suc m) (omega arith) (omega arith) (unassigned (w (suc m)) e))
