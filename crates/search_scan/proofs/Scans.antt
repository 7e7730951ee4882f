-- Turns of the loops that seek a failed clause and a forced literal. Assumes nothing.
use Prim.Native.Nat.{ℕ, suc, ◌+◌, ◌-◌, ◌/◌, ◌%◌, ◌≤◌, ◌<◌}
use native.Mathlib.Omega.{arith}
use native.Mathlib.Numerals.{add-one}
use lib.Dec.{ltb}
use borrow.Author.Tests.{eq-eqb, ne_eqb, lt-ltb, le-ltb, ltb-true, ltb-false}
use lib.IntN.{ℤ, pos}
use lib.ListN.{length, get_or, drop, drop_of_length-le, length-drop}
use lib.Seq.{drop-cons, drop-drop}
use mathlib.Core.Path.{◌≡◌, refl, sym, ◌∙◌, ap}
use mathlib.Core.Bool.{Bool, true, false, not, ◌&&◌, ◌||◌, cond}
use Rattle.std.specs.Prelude.{Option, None, Some}
use mathlib.Core.List.{List, [], ◌∷◌}
use Rattle.answers.specs.First.{found, or_else}
use Rattle.answers.proofs.Bools.{clash, and_both, and_off}
use Rattle.cnf.specs.Literals.{closes, code_of, variable_at}
use Rattle.cnf.proofs.Lists.{code_variable}
use Rattle.search.specs.Trail.{Value, True, False, Unassigned, is_true, is_false, Values, literal_value}
use Rattle.search.specs.Step.{every_literal, over_clauses, fails, failed_at, fails_but, by_value, forced_at, failed_clause, lower_place, forced_place}
use Rattle.search_scan.specs.PackedValues.{packed_values, Within}
use Rattle.search_scan.specs.Clause.{forced_up_to, clause_length}
use Rattle.search_scan.proofs.Literals.{read_fails, read_stands}

-- 1. To the end of a clause

length_most : (r : List ℤ) → clause_length r ≤ length r
unfolding clause_length
length_most [] = omega arith
length_most (l ∷ r) = by (closes l) (length_most r)
  where
    by : (b : Bool) → clause_length r ≤ length r → cond b 1 (suc (clause_length r)) ≤ suc (length r)
    by true h = omega arith
    by false h = omega arith

-- what is left of the clause is passed over
passed_over : (join : Option ℕ → Option ℕ → Option ℕ) (look : ℕ → List ℤ → Option ℕ) (i : ℕ) (r : List ℤ)
    → over_clauses join look true (i + clause_length r) (drop (clause_length r) r) ≡ over_clauses join look false i r
unfolding over_clauses clause_length
passed_over join look i [] = refl
passed_over join look i (l ∷ r) = by (closes l) (passed_over join look (suc i) r)
  where
    by : (b : Bool) → over_clauses join look true (suc i + clause_length r) (drop (clause_length r) r) ≡ over_clauses join look false (suc i) r
        → over_clauses join look true (i + cond b 1 (suc (clause_length r))) (drop (cond b 1 (suc (clause_length r))) (l ∷ r)) ≡ over_clauses join look b (suc i) r
    by true h = rw add-one
    by false h = let e : i + suc (clause_length r) ≡ suc i + clause_length r = omega arith in rw e h

-- where the next clause begins, after a place i in the one at hand
module _ (ls : List ℤ) (i : ℕ) {r : ℕ} (e : r ≡ i + 1 + clause_length (drop (i + 1) ls)) where
  past : r ≡ suc i + clause_length (drop (suc i) ls)
  past = e ∙ (rw add-one refl)

  past_inside : i < length ls → r ≤ length ls
  past_inside h =
      let q = past in
      let m = length_most (drop (suc i) ls) in
      let l = length-drop (suc i) ls in
      omega arith

  past_clause : (join : Option ℕ → Option ℕ → Option ℕ) (look : ℕ → List ℤ → Option ℕ)
      → over_clauses join look true r (drop r ls) ≡ over_clauses join look false (suc i) (drop (suc i) ls)
  past_clause join look =
      let rest : List ℤ = drop (suc i) ls in
      let n : ℕ = suc i + clause_length rest in
      rw past (ap (over_clauses join look true n) (sym (drop-drop (clause_length rest) (suc i) ls)) ∙ passed_over join look (suc i) rest)

-- at j, on the way from i
pub record Passing (ls : List ℤ) (i j : ℕ) : Type 0 where
  pub rest : j + clause_length (drop j ls) ≡ i + clause_length (drop i ls)

module _ {ls : List ℤ} {i j : ℕ} (p : Passing ls i j) where
  pub pass_none : j ≡ length ls → length ls ≡ i + clause_length (drop i ls)
  unfolding clause_length
  pass_none h =
      let e : j + 0 ≡ length ls = omega arith in
      sym e ∙ (rw (drop_of_length-le ls {i = j} (omega arith)) at p.rest)

  module _ (h : j < length ls) where
    pass_here : j + clause_length (get_or ls j (pos 0) ∷ drop (suc j) ls) ≡ i + clause_length (drop i ls)
    pass_here = rw (drop-cons ls j (pos 0) h) at p.rest

    pub pass_end : closes (get_or ls j (pos 0)) ≡ true → j + 1 ≡ i + clause_length (drop i ls)
    unfolding clause_length
    pass_end z = rw z at pass_here

    pub pass_on : closes (get_or ls j (pos 0)) ≡ false → Passing ls i (j + 1)
    unfolding clause_length
    pass_on z =
        record {
          rest =
              rw add-one (let e : suc j + clause_length (drop (suc j) ls) ≡ j + suc (clause_length (drop (suc j) ls)) = omega arith in e ∙ (rw z at pass_here));
        }

-- 2. Failed clauses

abbrev next_failed : Values → Bool → ℕ → List ℤ → Option ℕ
next_failed w begins i r = over_clauses or_else (failed_at w) begins i r

-- in a clause that begins at start and whose literals so far are all false
pub record Failing (w : Values) (ls : List ℤ) (start i : ℕ) : Type 0 where
  pub seen : i ≤ length ls
  pub rest : found (every_literal (fails w) (drop i ls)) start (next_failed w false i (drop i ls)) ≡ failed_clause w ls

begin : (w : Values) (i : ℕ) (r : List ℤ) → found (every_literal (fails w) r) i (next_failed w false i r) ≡ next_failed w true i r
unfolding over_clauses every_literal
begin w i [] = refl
begin w i (l ∷ r) = by (closes l || (fails w l && every_literal (fails w) r)) (next_failed w (closes l) (suc i) r)
  where
    by : (b : Bool) (o : Option ℕ) → found b i o ≡ or_else (found b i None) o
    by true o = refl
    by false o = refl

pub fail_start : {w : Values} {ls : List ℤ} → Failing w ls 0 0
unfolding failed_clause
fail_start {w} {ls} = record { seen = omega arith; rest = begin w 0 ls }

module _ {w : Values} {ls : List ℤ} {start i : ℕ} (f : Failing w ls start i) where
  pub fail_none : length ls ≤ i → None ≡ failed_clause w ls
  unfolding over_clauses every_literal
  fail_none h = rw (drop_of_length-le ls h) at f.rest

  module _ (h : i < length ls) where
    here : found (every_literal (fails w) (get_or ls i (pos 0) ∷ drop (suc i) ls)) start (next_failed w false i (get_or ls i (pos 0) ∷ drop (suc i) ls))
        ≡ failed_clause w ls
    here = rw (drop-cons ls i (pos 0) h) at f.rest

    pub fail_found : closes (get_or ls i (pos 0)) ≡ true → Some start ≡ failed_clause w ls
    unfolding every_literal
    fail_found z = rw (z, every_literal) at here

    module _ (z : closes (get_or ls i (pos 0)) ≡ false) where
      pub fail_false : fails w (get_or ls i (pos 0)) ≡ true → Failing w ls start (i + 1)
      unfolding over_clauses every_literal
      fail_false k = record { seen = omega arith; rest = rw add-one (rw (z, k) at here) }

      -- a literal that is not false: the next clause
      pub fail_other : {r : ℕ} → fails w (get_or ls i (pos 0)) ≡ false → r ≡ i + 1 + clause_length (drop (i + 1) ls) → Failing w ls r r
      unfolding over_clauses every_literal
      fail_other {r} k e =
          let past-here : next_failed w false (suc i) (drop (suc i) ls) ≡ failed_clause w ls = (rw (z, k) at here) in
          record { seen = past_inside ls i e h; rest = begin w r (drop r ls) ∙ past_clause ls i e or_else (failed_at w) ∙ past-here }

-- 3. Forced literals

module _ (ls : List ℤ) where
  lower_none : (o : Option ℕ) → lower_place ls o None ≡ o
  lower_none None = refl
  lower_none (Some p) = refl

  lower_assoc : (a b c : Option ℕ) → lower_place ls (lower_place ls a b) c ≡ lower_place ls a (lower_place ls b c)
  lower_assoc None b c = refl
  lower_assoc (Some p) None c = refl
  lower_assoc (Some p) (Some q) None = lower_none (lower_place ls (Some p) (Some q))
  lower_assoc (Some p) (Some q) (Some r) = by (variable_at ls p) refl (variable_at ls q) refl (variable_at ls r) refl
    where
      by : (x : ℕ) → variable_at ls p ≡ x → (y : ℕ) → variable_at ls q ≡ y → (z : ℕ) → variable_at ls r ≡ z
          → lower_place ls (lower_place ls (Some p) (Some q)) (Some r) ≡ lower_place ls (Some p) (lower_place ls (Some q) (Some r))
      by x a y b z c = rw (a, b, c) (at (ltb y x) refl (ltb z y) refl)
        where
          at : (s : Bool) → ltb y x ≡ s → (t : Bool) → ltb z y ≡ t → lower_place ls (found s q (Some p)) (Some r) ≡ lower_place ls (Some p) (found t r (Some q))
          at true e true f = let h = ltb-true y x e in let k = ltb-true z y f in rw (a, b, c, f, lt-ltb z x (omega arith))
          at true e false f = rw (a, b, c, e, f)
          at false e true f = refl
          at false e false f = let h = ltb-false y x e in let k = ltb-false z y f in rw (a, b, c, e, le-ltb z x (omega arith))

  -- a place of the list goes before `lowest` exactly if its variable is at most `most`
  pub record UpTo (lowest : Option ℕ) (most : ℕ) : Type 0 where
    lower : (q : ℕ) → q < length ls → variable_at ls q < suc most → lower_place ls lowest (Some q) ≡ Some q
    other : (q : ℕ) → q < length ls → suc most ≤ variable_at ls q → lower_place ls lowest (Some q) ≡ lowest

  up_to_all : {v : ℕ} → Within v ls → UpTo None v
  up_to_all {v} w = record { lower = λ q h l. refl; other = λ q h l. let a = ltb-false v (variable_at ls q) (w.each q h) in absurd (omega arith) }

  up_to_lower : {m : ℕ} (p : ℕ) → suc m ≡ variable_at ls p → UpTo (Some p) m
  up_to_lower p e =
      record {
        lower = λ q h l. rw (lt-ltb (variable_at ls q) (variable_at ls p) (omega arith));
        other = λ q h l. rw (le-ltb (variable_at ls q) (variable_at ls p) (omega arith));
      }

-- the first literal that is not false: it is not true, and those after it are false, or the same
abbrev alone : Values → List ℤ → ℕ → Bool
alone w ls i = not (is_true (literal_value w (get_or ls i (pos 0)))) && every_literal (fails_but w (get_or ls i (pos 0))) (drop (suc i) ls)

module _ (w : Values) (ls : List ℤ) (i most : ℕ) (h : i < length ls) where
  forced-up-to : forced_up_to w most (drop i ls) ≡ (ltb (variable_at ls i) (suc most) && alone w ls i)
  forced-up-to = ap (forced_up_to w most) (drop-cons ls i (pos 0) h)

  pub too_high : suc most ≤ variable_at ls i → false ≡ forced_up_to w most (drop i ls)
  too_high l = rw (forced-up-to, le-ltb (variable_at ls i) (suc most) l) refl

  pub not-true : literal_value w (get_or ls i (pos 0)) ≡ True → false ≡ forced_up_to w most (drop i ls)
  not-true e = rw (forced-up-to, e) (sym (and_off (ltb (variable_at ls i) (suc most)) false (λ q. refl)))

  pub others_left : variable_at ls i < suc most → (literal_value w (get_or ls i (pos 0)) ≡ True → ⊥)
      → every_literal (fails_but w (get_or ls i (pos 0))) (drop (suc i) ls) ≡ forced_up_to w most (drop i ls)
  others_left l n = rw (forced-up-to, lt-ltb (variable_at ls i) (suc most) l) (by (literal_value w (get_or ls i (pos 0))) n)
    where
      by : {t : Bool} (x : Value) → (x ≡ True → ⊥) → t ≡ (not (is_true x) && t)
      by True m = absurd (m refl)
      by False m = refl
      by Unassigned m = refl

-- what is found from there on
module _ (w : Values) (ls : List ℤ) where
  abbrev later : Bool → ℕ → List ℤ → Option ℕ
  later begins i r = over_clauses (lower_place ls) (forced_at w) begins i r

  abbrev forced_rest : ℕ → List ℤ → Option ℕ
  forced_rest i r = lower_place ls (forced_at w i r) (later false i r)

  -- at i, after false literals of a clause; `lowest` is what the clauses before it give
  pub record Forcing (i : ℕ) (lowest : Option ℕ) (most : ℕ) : Type 0 where
    pub seen : i ≤ length ls
    pub up_to : UpTo ls lowest most
    pub rest : lower_place ls lowest (forced_rest i (drop i ls)) ≡ forced_place w ls

  fresh : (i : ℕ) (r : List ℤ) → forced_rest i r ≡ later true i r
  unfolding over_clauses forced_at
  fresh i [] = refl
  fresh i (l ∷ r) = refl

  pub force_start : {v : ℕ} → Within v ls → Forcing 0 None v
  unfolding forced_place
  force_start h = record { seen = omega arith; up_to = up_to_all ls h; rest = fresh 0 ls }

module _ {w : Values} {ls : List ℤ} {i : ℕ} {lowest : Option ℕ} {most : ℕ} (f : Forcing w ls i lowest most) where
  pub force_end : length ls ≤ i → lowest ≡ forced_place w ls
  unfolding over_clauses forced_at
  force_end h = sym (lower_none ls lowest) ∙ (rw (drop_of_length-le ls h) at f.rest)

  module _ (h : i < length ls) where
    abbrev literal : ℤ
    literal = get_or ls i (pos 0)

    abbrev after : List ℤ
    after = drop (suc i) ls

    here_forced : lower_place ls lowest (forced_rest w ls i (literal ∷ after)) ≡ forced_place w ls
    here_forced = rw (drop-cons ls i (pos 0) h) at f.rest

    pub force_closed : closes literal ≡ true → Forcing w ls (i + 1) lowest most
    unfolding over_clauses forced_at
    force_closed z =
        record {
          seen = omega arith;
          up_to = f.up_to;
          rest = rw add-one (ap (lower_place ls lowest) (fresh w ls (suc i) after) ∙ (rw z at here_forced));
        }

    module _ (z : closes literal ≡ false) where
      pub force_false : fails w literal ≡ true → Forcing w ls (i + 1) lowest most
      unfolding over_clauses forced_at
      force_false k = record { seen = omega arith; up_to = f.up_to; rest = rw add-one (by (literal_value w literal) k (rw z at here_forced)) }
        where
          by : (x : Value) → is_false x ≡ true
              → lower_place ls lowest (lower_place ls (by_value x (found (every_literal (fails_but w literal) after) i None) (forced_at w (suc i) after))
              (later w ls false (suc i) after))
              ≡ forced_place w ls
              → lower_place ls lowest (forced_rest w ls (suc i) after) ≡ forced_place w ls
          by True q e = clash q refl
          by False q e = e
          by Unassigned q e = clash q refl

      -- the first literal that is not false: what the clause forces, and then the next clause
      module _ (k : fails w literal ≡ false) {r : ℕ} (e : r ≡ i + 1 + clause_length (drop (i + 1) ls)) where
        forced_here : forced_at w i (literal ∷ after) ≡ found (alone w ls i) i None
        unfolding forced_at
        forced_here = rw z (by (literal_value w literal) k)
          where
            by : (x : Value) → is_false x ≡ false → by_value x (found (every_literal (fails_but w literal) after) i None) (forced_at w (suc i) after)
                ≡ found (not (is_true x) && every_literal (fails_but w literal) after) i None
            by True q = refl
            by False q = clash refl q
            by Unassigned q = refl

        next : later w ls false i (literal ∷ after) ≡ forced_rest w ls r (drop r ls)
        unfolding over_clauses
        next = rw z (sym (fresh w ls r (drop r ls) ∙ past_clause ls i e (lower_place ls) (forced_at w)))

        goes_on : {o : Option ℕ} {b : ℕ} → UpTo ls o b → o ≡ lower_place ls lowest (found (alone w ls i) i None) → Forcing w ls r o b
        goes_on {o} c q =
            let rest : Option ℕ = forced_rest w ls r (drop r ls) in
            record {
              seen = past_inside ls i e h;
              up_to = c;
              rest = ap (λ x. lower_place ls x rest) q ∙ lower_assoc ls lowest (found (alone w ls i) i None) rest
                  ∙ ap (lower_place ls lowest) (sym (λ j. lower_place ls (forced_here j) (next j))) ∙ here_forced;
            }

        pub force_taken : forced_up_to w most (drop i ls) ≡ true → {k m : ℕ} → k ≡ code_of literal → 2 ≤ k → m ≡ k / 2 - 1 → Forcing w ls r (Some i) m
        force_taken t {k} c two q =
            let (low, left) = and_both (ltb (variable_at ls i) (suc most)) (alone w ls i) (sym (forced-up-to w ls i most h) ∙ t) in
            let v : k / 2 ≡ variable_at ls i = ap (λ n. n / 2) c ∙ code_variable literal in
            goes_on (up_to_lower ls i (omega arith)) (rw left (sym (f.up_to.lower i h (ltb-true (variable_at ls i) (suc most) low))))

        pub force_passed : forced_up_to w most (drop i ls) ≡ false → Forcing w ls r lowest most
        force_passed t = goes_on f.up_to (by (ltb (variable_at ls i) (suc most)) refl (alone w ls i) (sym (forced-up-to w ls i most h) ∙ t))
          where
            by : (b : Bool) → ltb (variable_at ls i) (suc most) ≡ b → (a : Bool) → (b && a) ≡ false → lowest ≡ lower_place ls lowest (found a i None)
            by true q true u = clash refl u
            by b q false u = sym (lower_none ls lowest)
            by false q true u = sym (f.up_to.other i h (ltb-false (variable_at ls i) (suc most) q))

-- 4. The literals after the first that is not false

module _ (ms : List ℕ) (l k : ℤ) {same code : ℕ} (e : same ≡ code_of l) (read : code ≡ code_of k) where
  pub same_fails : code ≡ same → fails_but (packed_values ms) l k ≡ true
  same_fails q = rw (eq-eqb (code_of k) (code_of l) (sym read ∙ q ∙ e))

  module _ (z : code ≡ 0 → ⊥) {n : ℕ} (value : n ≡ get_or ms (code / 2 - 1) 0 / 2) (other : code ≡ same → ⊥) where
    is_other : fails_but (packed_values ms) l k ≡ fails (packed_values ms) k
    is_other = rw (ne_eqb (code_of k) (code_of l) (λ q. other (read ∙ q ∙ sym e)))

    pub other_fails : n ≡ 2 - code % 2 → fails_but (packed_values ms) l k ≡ true
    other_fails q = is_other ∙ read_fails k (record { code = read; some = z; number = value }) q

    pub other_stands : (n ≡ 2 - code % 2 → ⊥) → fails_but (packed_values ms) l k ≡ false
    other_stands q = is_other ∙ read_stands k (record { code = read; some = z; number = value }) q

-- at j, on the way from i
pub record Testing (p : ℤ → Bool) (ls : List ℤ) (i j : ℕ) : Type 0 where
  pub rest : every_literal p (drop j ls) ≡ every_literal p (drop i ls)

module _ {p : ℤ → Bool} {ls : List ℤ} {i j : ℕ} (f : Testing p ls i j) where
  pub test_end : length ls ≤ j → false ≡ every_literal p (drop i ls)
  unfolding every_literal
  test_end h = rw (drop_of_length-le ls h) at f.rest

  module _ (h : j < length ls) where
    test_here : every_literal p (get_or ls j (pos 0) ∷ drop (suc j) ls) ≡ every_literal p (drop i ls)
    test_here = rw (drop-cons ls j (pos 0) h) at f.rest

    pub test_closed : closes (get_or ls j (pos 0)) ≡ true → true ≡ every_literal p (drop i ls)
    unfolding every_literal
    test_closed z = rw z at test_here

    module _ (z : closes (get_or ls j (pos 0)) ≡ false) where
      pub test_on : p (get_or ls j (pos 0)) ≡ true → Testing p ls i (j + 1)
      unfolding every_literal
      test_on k = record { rest = rw add-one (rw (z, k) at test_here) }

      pub test_not : p (get_or ls j (pos 0)) ≡ false → false ≡ every_literal p (drop i ls)
      unfolding every_literal
      test_not k = rw (z, k) at test_here
