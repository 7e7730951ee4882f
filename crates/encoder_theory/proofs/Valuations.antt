-- An assignment and the values that it gives the variables. Assumes nothing.
use Prim.Native.Nat.{ℕ, zero, suc, ◌<◌}
use native.Mathlib.Omega.{arith}
use native.Mathlib.Nat.{suc_inj}
use lib.ListN.{length, get_or}
use lib.IntN.{ℤ}
use borrow.Author.Tests.{not-true}
use mathlib.Core.Path.{◌≡◌, refl, sym, ◌∙◌, ap}
use mathlib.Core.Bool.{Bool, true, false, not}
use mathlib.Core.Logic.{inl, inr, ◌↔◌}
use mathlib.Core.List.Memᴰ
use mathlib.Core.List.{List, [], ◌∷◌, ◌++◌, map}
use Rattle.answers.specs.Lists.{All, Some, ◌∈◌, Apart, each}
use Rattle.answers.proofs.Bools.{clash}
use Rattle.rules.specs.Board.{Board}
use Rattle.rules.proofs.Boards.{Laws}
use Rattle.cnf.specs.Clauses.{split, Assignment, value, Satisfies}
use Rattle.encoder.specs.Variables.{Variable, same, place_step, place, variables, variable_count}
use Rattle.encoder.specs.Clauses.{Literal, plus, minus, Clause, signed, written, clauses, clause_list}
use Rattle.encoder.proofs.Known.{Known, of_variables}
use Rattle.encoder.proofs.Distinct.{variables_apart}
use Rattle.encoder.proofs.Values.{place_in}
use Rattle.encoder.proofs.Occurs.{variable_of, Inside, Within, clauses_within}
use Rattle.encoder_theory.specs.Valuations.{True, Sat, Holds, valuation}

-- 1. The clauses of the list are the numbered clauses.

split_clause : (b : Board) (c : Clause) (ls : List ℤ) → split (written b c ++ ls) ≡ map (signed b) c ∷ split ls
unfolding split
split_clause b [] ls = refl
split_clause b (plus v ∷ c) ls = rw (split_clause b c ls)
split_clause b (minus v ∷ c) ls = rw (split_clause b c ls)

split-each : (b : Board) (cs : List Clause) → split (each cs (written b)) ≡ map (map (signed b)) cs
unfolding split
split-each b [] = refl
split-each b (c ∷ cs) = split_clause b c _ ∙ ap (λ z. map (signed b) c ∷ z) (split-each b cs)

-- 2. A numbered literal is true when the literal is.

module _ (b : Board) (a : List Bool) where
  abbrev w : Variable → Bool
  w = valuation b a

  abbrev Satisfied : List ℤ → Type 0
  Satisfied ls = Some (λ l. value a l ≡ true) ls

  literal_to : (l : Literal) → value a (signed b l) ≡ true → True w l
  literal_to (plus v) h = h
  literal_to (minus v) h = not-true _ h

  literal_of : (l : Literal) → True w l → value a (signed b l) ≡ true
  literal_of (plus v) h = h
  literal_of (minus v) h = ap not h

  clause_to : (c : Clause) → Satisfied (map (signed b) c) → Sat w c
  clause_to [] h = h
  clause_to (l ∷ c) (inl h) = inl (literal_to l h)
  clause_to (l ∷ c) (inr h) = inr (clause_to c h)

  clause_of : (c : Clause) → Sat w c → Satisfied (map (signed b) c)
  clause_of [] h = h
  clause_of (l ∷ c) (inl h) = inl (literal_of l h)
  clause_of (l ∷ c) (inr h) = inr (clause_of c h)

  list_to : (cs : List Clause) → All Satisfied (map (map (signed b)) cs) → Holds w cs
  list_to [] h = tt
  list_to (c ∷ cs) h = (clause_to c h.0, list_to cs h.1)

  list_of : (cs : List Clause) → Holds w cs → All Satisfied (map (map (signed b)) cs)
  list_of [] h = tt
  list_of (c ∷ cs) h = (clause_of c h.0, list_of cs h.1)

  -- an assignment satisfies the list exactly if its values make the clauses true
  pub satisfies : Satisfies a (clause_list b) ↔ Holds (valuation b a) (clauses b)
  unfolding clause_list
  satisfies = (λ h. list_to (clauses b) (rw (split-each b (clauses b)) at h), λ h. rw (split-each b (clauses b)) (list_of (clauses b) h))

-- 3. The assignment of a valuation gives its values back.

read_back : (w : Variable → Bool) (v : Variable) {us : List Variable} → v ∈ us → get_or (map w us) (place v us) false ≡ w v
unfolding place
read_back w v (Memᴰ.head {x = u} {xs = us} e) = by (same v u)
  where
    by : (d : Dec (v ≡ u)) → get_or (w u ∷ map w us) (place_step d (place v us)) false ≡ w v
    by (yes p) = ap w (sym p)
    by (no n) = absurd (n e)
read_back w v (Memᴰ.tail {x = u} {xs = us} m) = by (same v u) (read_back w v m)
  where
    by : (d : Dec (v ≡ u)) → get_or (map w us) (place v us) false ≡ w v → get_or (w u ∷ map w us) (place_step d (place v us)) false ≡ w v
    by (yes p) h = ap w (sym p)
    by (no n) h = h

pub valuation_of : (b : Board) (w : Variable → Bool) (v : Variable) → v ∈ variables b → valuation b (map w (variables b)) v ≡ w v
valuation_of b w v m = read_back w v m

-- 4. An assignment is given by its values, as no variable is there twice.

map_same : {A B : Type 0} (f g : A → B) (us : List A) → ((v : A) → v ∈ us → f v ≡ g v) → map f us ≡ map g us
map_same f g [] h = refl
map_same f g (u ∷ us) h = rw (h u (Memᴰ.head refl), map_same f g us (λ v m. h v (Memᴰ.tail m)))

first : (x : Bool) (a : List Bool) (u : Variable) (n : ℕ) → get_or (x ∷ a) (place_step (same u u) n) false ≡ x
first x a u n = by (same u u)
  where
    by : (d : Dec (u ≡ u)) → get_or (x ∷ a) (place_step d n) false ≡ x
    by (yes p) = refl
    by (no q) = absurd (q refl)

later : (x : Bool) (a : List Bool) (u v : Variable) (n : ℕ) → (u ≡ v → ⊥) → get_or (x ∷ a) (place_step (same v u) n) false ≡ get_or a n false
later x a u v n h = by (same v u)
  where
    by : (d : Dec (v ≡ u)) → get_or (x ∷ a) (place_step d n) false ≡ get_or a n false
    by (yes p) = absurd (h (sym p))
    by (no q) = refl

write_back : (us : List Variable) (a : List Bool) → Apart us → length a ≡ length us → map (λ v. get_or a (place v us) false) us ≡ a
unfolding place
write_back [] [] h e = refl
write_back [] (x ∷ a) h e = absurd (omega arith)
write_back (u ∷ us) [] h e = absurd (omega arith)
write_back (u ∷ us) (x ∷ a) h e =
    rw (first x a u (place u us)) (ap (λ z. x ∷ z)
    (map_same (λ v. get_or (x ∷ a) (place v (u ∷ us)) false) (λ v. get_or a (place v us) false) us (λ v m. later x a u v (place v us) (h.0 v m))
    ∙ write_back us a h.1 (suc_inj e)))

-- two assignments with the same values of all variables are one
pub same_assignment : (b : Board) → Laws b → (a c : List Bool) → Assignment (variable_count b) a → Assignment (variable_count b) c
    → ((v : Variable) → v ∈ variables b → valuation b a v ≡ valuation b c v) → a ≡ c
same_assignment b law a c e f k =
    sym (write_back (variables b) a apart e) ∙ map_same (valuation b a) (valuation b c) (variables b) k ∙ write_back (variables b) c apart f
  where
    apart : Apart (variables b)
    apart = variables_apart b law

-- 5. A valuation that makes the clauses true gives an assignment that satisfies the list: only the variables that occur count.

module _ (w u : Variable → Bool) (vs : List Variable) (e : (v : Variable) → v ∈ vs → w v ≡ u v) where
  literal_agrees : (l : Literal) → variable_of l ∈ vs → True w l → True u l
  literal_agrees (plus v) m h = sym (e v m) ∙ h
  literal_agrees (minus v) m h = sym (e v m) ∙ h

  clause_agrees : (c : Clause) → Inside vs c → Sat w c → Sat u c
  clause_agrees [] k h = h
  clause_agrees (l ∷ c) k (inl h) = inl (literal_agrees l k.0 h)
  clause_agrees (l ∷ c) k (inr h) = inr (clause_agrees c k.1 h)

  agrees : (cs : List Clause) → Within vs cs → Holds w cs → Holds u cs
  agrees [] k h = tt
  agrees (c ∷ cs) k h = (clause_agrees c k.0 h.0, agrees cs k.1 h.1)

pub satisfied : (b : Board) → Laws b → (w : Variable → Bool) → Holds w (clauses b) → Satisfies (map w (variables b)) (clause_list b)
satisfied b law w h =
    let a = map w (variables b) in
    (satisfies b a).1 (agrees w (valuation b a) (variables b) (λ v m. sym (valuation_of b w v m)) (clauses b) (clauses_within b law) h)

-- 6. An assignment's values are false at what is no variable.

abbrev pub Proper : Board → (Variable → Bool) → Type 0
Proper b w = (v : Variable) → w v ≡ true → Known b v

value_below : (a : List Bool) (n : ℕ) → get_or a n false ≡ true → n < length a
value_below [] n h = clash h refl
value_below (x ∷ a) zero h = omega arith
value_below (x ∷ a) (suc n) h = let l : n < length a = value_below a n h in omega arith

pub proper : (b : Board) (a : List Bool) → Assignment (variable_count b) a → Proper b (valuation b a)
proper b a e v h =
    let l : place v (variables b) < length a = value_below a (place v (variables b)) h in of_variables b v (place_in v (variables b) (omega arith))
