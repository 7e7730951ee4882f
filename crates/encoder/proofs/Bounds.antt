-- V is not too large for bounded boards, and the list is one for V. Assumes nothing.
use Prim.Native.Nat.{ℕ, zero, suc, ◌+◌, ◌*◌, ◌-◌, ◌≤◌, ◌<◌}
use native.Mathlib.Omega.{arith}
use native.Mathlib.Nat.{mul-le-mul}
use lib.IntN.{ℤ, pos}
use lib.ListN.{length, get_or, length-append}
use lib.Seq.{get_or-append-add}
use borrow.Author.Tests.{le-ltb}
use mathlib.Core.Path.{◌≡◌, refl, ◌∙◌, ap}
use mathlib.Core.Bool.{Bool, true, false, not}
use Rattle.std.specs.Prelude.{Option, None, Some}
use mathlib.Core.List.Memᴰ
use mathlib.Core.List.{List, [], ◌∷◌, ◌++◌, map, append-nil}
use Rattle.answers.specs.First.{first_where, found, or_else}
use Rattle.answers.specs.Lists.{All, ◌∈◌, up_to, each}
use Rattle.answers.proofs.First.{none_first}
use Rattle.rules.specs.declared.Direction.{Direction}
use Rattle.rules.specs.Board.{Clue, Board}
use Rattle.rules.proofs.Boards.{Laws}
use Rattle.cnf.specs.Literals.{closes, most_variables, beyond_at, unclosed, wrong_list}
use Rattle.cnf.specs.Clauses.{clause_count}
use Rattle.encoder.specs.Variables.{Variable, directions, opens, open_count, if_open, if_there, neighbours, out, outgoing, link_variables, clue_counts, counts}
use Rattle.encoder.specs.Variables.{variables, variable_count, same, place_step, place, number}
use Rattle.encoder.specs.Clauses.{Literal, plus, minus, Clause, clauses, signed, written, clause_list}
use Rattle.encoder.specs.Bounds.{NotBeyond, BoundedBoard}
use Rattle.answers.proofs.Elements.{all_append, all_at, all_each, all_map, length_from, length_each_most, keep-most, map-most}
use Rattle.encoder.proofs.Occurs.{variable_of, Inside, clauses_within}
use Rattle.encoder.proofs.Places.{clue_long, total}

-- 1. How many open cells and neighbours there are

pub neighbours-most : (b : Board) (x : ℕ) (ds : List Direction) → length (neighbours b x ds) ≤ length ds
neighbours-most b x ds = let h = length_each_most (λ d. if_there b d (b.next d x)) 1 ds (λ d m. one d (b.next d x)) in omega arith
  where
    one : (d : Direction) (o : Option ℕ) → length (if_there b d o) ≤ 1
    one d None = omega arith
    one d (Some y) = by (b.is_open y)
      where
        by : (t : Bool) → length (if_open t d y) ≤ 1
        by true = omega arith
        by false = omega arith

opens-most : (b : Board) → open_count b ≤ b.size
opens-most b = omega (arith, keep-most b.is_open (up_to b.size), length_from 0 b.size)

-- 2. V

module _ {b : Board} (bounded : BoundedBoard b) where
  pub open_few : open_count b ≤ 2025
  open_few = let c = bounded.cells in omega (arith, opens-most b)

  links_few : length (link_variables b) ≤ 8100
  links_few =
      let h = length_each_most (outgoing b) 4 (opens b) (λ x m. map-most (out x) (neighbours b x directions) 4 (neighbours-most b x directions)) in
      omega (arith, open_few)

  counts_few : length (counts b) ≤ 2025 * 2025
  counts_few =
      omega (arith, bounded.clues, length_each_most clue_counts 2025 b.clues one)
    where
      one : (c : Clue) → c ∈ b.clues → length (clue_counts c) ≤ 2025
      one c m =
          let (l, n) = all_at (λ (c : Clue). (length c.line ≤ 44) × (c.number ≤ 44)) bounded.short m in
          let p : suc (length c.line) * suc c.number ≤ 45 * 45 = mul-le-mul {n₂ = 45} {m₂ = 45} (omega arith) (omega arith) in omega (arith, clue_long c)

  -- search and writer never find V too large
  pub few_variables : variable_count b ≤ most_variables
  few_variables =
      let q : open_count b * open_count b ≤ 2025 * 2025 = mul-le-mul open_few open_few in
      omega (arith, total b, open_few, links_few, counts_few)

-- 3. The list is one for V: no literal is beyond V, and 0 stands at the end

pub place_below : (v : Variable) {us : List Variable} → v ∈ us → place v us < length us
unfolding place
place_below v (Memᴰ.head {x = u} {xs = us} e) = by (same v u)
  where
    by : (d : Dec (v ≡ u)) → place_step d (place v us) < suc (length us)
    by (yes p) = omega arith
    by (no n) = absurd (n e)
place_below v (Memᴰ.tail {x = u} {xs = us} m) = by (same v u) (place_below v m)
  where
    by : (d : Dec (v ≡ u)) → place v us < length us → place_step d (place v us) < suc (length us)
    by (yes p) h = omega arith
    by (no n) h = omega arith

pub number-most : (b : Board) {v : Variable} → v ∈ variables b → number b v ≤ variable_count b
number-most b {v} m = place_below v m

literal_not_beyond : (b : Board) (l : Literal) → variable_of l ∈ variables b → NotBeyond (variable_count b) (signed b l)
literal_not_beyond b (plus v) m = number-most b m
literal_not_beyond b (minus v) m = number-most b m

written_not_beyond : (b : Board) (c : Clause) → Inside (variables b) c → All (NotBeyond (variable_count b)) (written b c)
written_not_beyond b c h =
    let v = variable_count b in
    all_append (NotBeyond v) (map (signed b) c) (pos 0 ∷ [])
    (all_map (NotBeyond v) (signed b) c (λ l m. literal_not_beyond b l (all_at (λ (l : Literal). variable_of l ∈ variables b) h m))) (omega arith, tt)

all_get : {A : Type 0} (P : A → Type 0) (d : A) (xs : List A) → All P xs → (i : ℕ) → i < length xs → P (get_or xs i d)
all_get P d [] h i l = absurd (omega arith)
all_get P d (x ∷ xs) h zero l = h.0
all_get P d (x ∷ xs) h (suc i) l = all_get P d xs h.1 i (omega arith)

-- the end of a list in two parts
append_end : (xs : List ℤ) (y : ℤ) (ys : List ℤ) → unclosed (xs ++ (y ∷ ys)) ≡ unclosed (y ∷ ys)
append_end xs y ys =
    let e : length (xs ++ (y ∷ ys)) - 1 ≡ length xs + length ys = omega (arith, length-append xs (y ∷ ys)) in
    let f : length (y ∷ ys) - 1 ≡ length ys = omega arith in
    rw (e, f) (ap (λ l. not (closes l)) (get_or-append-add xs (y ∷ ys) (length ys) (pos 0)))

append-closed : (xs ys : List ℤ) → unclosed xs ≡ false → unclosed ys ≡ false → unclosed (xs ++ ys) ≡ false
append-closed xs [] h k = rw (append-nil xs) h
append-closed xs (y ∷ ys) h k = append_end xs y ys ∙ k

list_closed : (b : Board) (cs : List Clause) → unclosed (each cs (written b)) ≡ false
list_closed b [] = refl
list_closed b (c ∷ cs) = append-closed (written b c) (each cs (written b)) (append_end (map (signed b) c) (pos 0) []) (list_closed b cs)

-- the clauses are as many as the list has zeros
count_written : (b : Board) (c : Clause) (ls : List ℤ) → clause_count (written b c ++ ls) ≡ suc (clause_count ls)
count_written b [] ls = refl
count_written b (plus v ∷ c) ls = count_written b c ls
count_written b (minus v ∷ c) ls = count_written b c ls

count_each : (b : Board) (cs : List Clause) → clause_count (each cs (written b)) ≡ length cs
count_each b [] = refl
count_each b (c ∷ cs) = count_written b c (each cs (written b)) ∙ ap suc (count_each b cs)

pub clause-count : (b : Board) → clause_count (clause_list b) ≡ length (clauses b)
unfolding clause_list
clause-count b = count_each b (clauses b)

pub list_not_beyond : (b : Board) → Laws b → All (NotBeyond (variable_count b)) (clause_list b)
unfolding clause_list
list_not_beyond b law =
    all_each (NotBeyond (variable_count b)) (written b) (clauses b) (λ c m. written_not_beyond b c (all_at (Inside (variables b)) (clauses_within b law) m))

-- search and writer never find the list wrong
pub list_not_wrong : (b : Board) → Laws b → wrong_list (variable_count b) (clause_list b) ≡ None
unfolding clause_list
list_not_wrong b law =
    let v = variable_count b in
    let ls = clause_list b in
    let within : first_where (beyond_at v ls) (length ls) ≡ None =
    none_first _ _ (λ i h. le-ltb _ _ (all_get (NotBeyond v) (pos 0) ls (list_not_beyond b law) i h)) in
    (λ t. or_else (within t) (found (list_closed b (clauses b) t) (length ls) None))
