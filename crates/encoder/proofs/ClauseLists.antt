-- What the code that writes clauses goes by: the list made cell by cell and count by count, and how the numbers go on. With `Wrote` of `answers`
-- the turn of a loop is `wrote_recast (sym law) (Wrote-after inv ensures)`. Assumes nothing.
use Prim.Native.Nat.{ℕ, zero, suc, ◌+◌, ◌*◌, ◌-◌, ◌≤◌, ◌<◌}
use native.Mathlib.Omega.{arith}
use native.Mathlib.Numerals.{add-one}
use lib.ListN.{length, length-append}
use mathlib.Core.Path.{◌≡◌, refl, sym, ◌∙◌, ap}
use mathlib.Core.Bool.{Bool, true, false, cond}
use mathlib.Core.List.{List, [], ◌∷◌, ◌++◌, map, map-map, append-nil}
use Rattle.rules.specs.Directions.{bit}
use Rattle.rules.specs.Board.{Clue, Board}
use Rattle.rules.proofs.Boards.{Laws}
use Rattle.answers.specs.Lists.{from, up_to, each, joined, keep_step, keep}
use Rattle.encoder.specs.Variables.{Variable, Q, T, open_count, outgoing, number, lower, rank, at_cell, links_below}
use Rattle.encoder.specs.Clauses.{Clause, not_both, pairs, families, clauses, written, list_of, clause_list}
use Rattle.answers.proofs.Elements.{each_append, keep_append, from_last}
use Rattle.encoder.proofs.Places.{At, place_q, place_t}

-- 1. Loops

-- a count: what is made of one number more
pub each_next : {A : Type 0} (f : ℕ → List A) (a k : ℕ) → each (from a (k + 1)) f ≡ each (from a k) f ++ f (a + k)
each_next f a k = ap (λ ks. each ks f) (from_last a k) ∙ each_append f (from a k) ((a + k) ∷ []) ∙ ap (λ l. each (from a k) f ++ l) (append-nil (f (a + k)))

-- the same made by another function of numbers that go on alike
pub each_shift : {A : Type 0} (f g : ℕ → List A) (a c n : ℕ) → ((k : ℕ) → k < n → f (a + k) ≡ g (c + k)) → each (from a n) f ≡ each (from c n) g
each_shift f g a c zero e = refl
each_shift f g a c (suc n) e =
    let i : a + 0 ≡ a = omega arith in
    let j : c + 0 ≡ c = omega arith in
    let first : f a ≡ g c = ap f (sym i) ∙ e 0 (omega arith) ∙ ap g j in
    rw (first, each_shift f g (suc a) (suc c) n next)
  where
    next : (k : ℕ) → k < n → f (suc a + k) ≡ g (suc c + k)
    next k l =
        let p : suc a + k ≡ a + suc k = omega arith in
        let q : c + suc k ≡ suc c + k = omega arith in ap f p ∙ e (suc k) (omega arith) ∙ ap g q

-- the cells: what is made of one cell more
module _ (b : Board) (x : ℕ) where
  lower-next : lower b (x + 1) ≡ lower b x ++ keep_step (b.is_open x) x []
  lower-next =
      let e : 0 + x ≡ x = omega arith in
      ap (keep b.is_open) (from_last 0 x) ∙ keep_append b.is_open (up_to x) ((0 + x) ∷ []) ∙ ap (λ y. lower b x ++ keep_step (b.is_open y) y []) e

  pub each_cell : {A : Type 0} (f : ℕ → List A) → each (lower b (x + 1)) f ≡ each (lower b x) f ++ at_cell b f x
  each_cell f =
      ap (λ xs. each xs f) lower-next ∙ each_append f (lower b x) (keep_step (b.is_open x) x []) ∙ ap (λ l. each (lower b x) f ++ l) (by (b.is_open x))
    where
      by : (t : Bool) → each (keep_step t x []) f ≡ cond t (f x) []
      by true = append-nil (f x)
      by false = refl

  pub at_open : {A : Type 0} (f : ℕ → List A) → b.is_open x ≡ true → at_cell b f x ≡ f x
  at_open f h = ap (λ t. cond t (f x) []) h

  pub at_shut : {A : Type 0} (f : ℕ → List A) → b.is_open x ≡ false → at_cell b f x ≡ []
  at_shut f h = ap (λ t. cond t (f x) []) h

  -- the rank and the first E number of the next cell
  pub rank-next : rank b (x + 1) ≡ rank b x + bit (b.is_open x)
  rank-next = ap length lower-next ∙ length-append (lower b x) _ ∙ ap (λ n. rank b x + n) (by (b.is_open x))
    where
      by : (t : Bool) → length (keep_step t x []) ≡ bit t
      by true = refl
      by false = refl

  pub rank_open : b.is_open x ≡ true → rank b (x + 1) ≡ rank b x + 1
  rank_open h = rank-next ∙ ap (λ t. rank b x + bit t) h

  pub rank_shut : b.is_open x ≡ false → rank b (x + 1) ≡ rank b x
  rank_shut h = rank-next ∙ ap (λ t. rank b x + bit t) h ∙ omega arith

  pub links-next : links_below b (x + 1) ≡ links_below b x + length (at_cell b (outgoing b) x)
  links-next = ap length (each_cell (outgoing b)) ∙ length-append (each (lower b x) (outgoing b)) (at_cell b (outgoing b) x)

-- the open cells before x, cell by cell
pub lower-each : (b : Board) {A : Type 0} (F : ℕ → List A) (x : ℕ) → each (lower b x) F ≡ each (up_to x) (at_cell b F)
lower-each b F zero = refl
lower-each b F (suc x) =
    let e : 0 + x ≡ x = omega arith in
    ap (λ n. each (lower b n) F) (sym (add-one x)) ∙ each_cell b x F ∙ (λ t. lower-each b F x t ++ at_cell b F (sym e t)) ∙ sym (each_next (at_cell b F) 0 x)
    ∙ ap (λ n. each (up_to n) (at_cell b F)) (add-one x)

-- pairs of variables that go by a number t: for each t, with each u after it
pub pairs-each : (f : ℕ → Variable) (a n : ℕ) → pairs (map f (from a n)) ≡ each (from a n) (λ t. map (λ u. not_both (f t) (f u)) (from (suc t) (a + n - suc t)))
pairs-each f a zero = refl
pairs-each f a (suc n) =
    let e : a + suc n - suc a ≡ n = omega arith in
    let i : suc a + n ≡ a + suc n = omega arith in
    (λ t.
    map-map (not_both (f a)) f (from (suc a) n) t ++
    (pairs-each f (suc a) n ∙ ap (λ m. each (from (suc a) n) (λ t. map (λ u. not_both (f t) (f u)) (from (suc t) (m - suc t)))) i) t)
    ∙ ap
    (λ m. map (λ u. not_both (f a) (f u)) (from (suc a) m) ++ each (from (suc a) n) (λ t. map (λ u. not_both (f t) (f u)) (from (suc t) (a + suc n - suc t))))
    (sym e)

-- 2. Clauses, as they are written

module _ (b : Board) where
  pub list_append : (cs ds : List Clause) → list_of b (cs ++ ds) ≡ list_of b cs ++ list_of b ds
  list_append cs ds = each_append (written b) cs ds

  -- part by part, and family by family
  pub list_joined : (css : List (List Clause)) → list_of b (joined css) ≡ joined (map (list_of b) css)
  list_joined [] = refl
  list_joined (cs ∷ css) = list_append cs (joined css) ∙ ap (λ l. list_of b cs ++ l) (list_joined css)

  pub list_families : clause_list b ≡ joined (map (list_of b) (families b))
  unfolding clause_list clauses
  list_families = list_joined (families b)

  -- for each what its clauses give
  pub list_each : {A : Type 0} (f : A → List Clause) (xs : List A) → list_of b (each xs f) ≡ each xs (λ x. list_of b (f x))
  list_each f [] = refl
  list_each f (x ∷ xs) = list_append (f x) (each xs f) ∙ ap (λ l. list_of b (f x) ++ l) (list_each f xs)

  pub list_map : {A : Type 0} (f : A → Clause) (xs : List A) → list_of b (map f xs) ≡ each xs (λ x. written b (f x))
  list_map f [] = refl
  list_map f (x ∷ xs) = ap (λ l. written b (f x) ++ l) (list_map f xs)

  -- 3. Numbers that go on by one

  module _ (law : Laws b) where
    pub number_q : (x k : ℕ) → b.is_open x ≡ true → k < open_count b → number b (Q x k) ≡ number b (Q x 0) + k
    number_q x k h l = let p = place_q b law x k h l in let q = place_q b law x 0 h (omega arith) in omega arith

    pub number_t : (c : Clue) (cs : List Clue) (j t : ℕ) → At b.clues c cs → j ≤ length c.line → t ≤ c.number
        → number b (T c.cell j t) ≡ number b (T c.cell 0 0) + (j * suc c.number + t)
    number_t c cs j t m h k = let p = place_t b law c cs j t m h k in let q = place_t b law c cs 0 0 m (omega arith) (omega arith) in omega arith
