-- No variable is twice in the list. Assumes nothing.
use Prim.Native.Nat.{ℕ, suc, ◌≤◌}
use native.Mathlib.Omega.{arith}
use lib.ListN.{length}
use mathlib.Core.Path.{◌≡◌, refl, sym, ◌∙◌, ap}
use mathlib.Core.Logic.{◌⊎◌, inl, inr}
use mathlib.Core.List.Memᴰ
use mathlib.Core.List.{List, [], ◌++◌, map}
use Rattle.answers.specs.Lists.{◌∈◌, Apart, up_to, each}
use Rattle.rules.specs.declared.Direction.{Direction}
use Rattle.rules.specs.Board.{Clue, Board}
use Rattle.rules.proofs.Boards.{Laws}
use Rattle.encoder.specs.Variables.{Variable, Z, S, E, Q, T, directions, opens, open_count, Neighbour, neighbours, out, outgoing, blacks, starts}
use Rattle.encoder.specs.Variables.{link_variables, distances, counts_at, clue_counts, counts, variables}
use Rattle.answers.proofs.Elements.{of_each, apart_append, apart_map, apart_each, apart_from}
use Rattle.encoder.proofs.Neighbours.{apart_opens, links_apart}

abbrev letter : Variable → ℕ
letter (Z x) = 0
letter (S x) = 1
letter (E x d) = 2
letter (Q x k) = 3
letter (T c j t) = 4

-- variables of the k-th letter, each once; and of letters from the k-th on
record Just (k : ℕ) (vs : List Variable) : Type 0 where
  is : (v : Variable) → v ∈ vs → letter v ≡ k
  once : Apart vs

record From (k : ℕ) (vs : List Variable) : Type 0 where
  above : (v : Variable) → v ∈ vs → k ≤ letter v
  once : Apart vs

join : (k : ℕ) (us vs : List Variable) → Just k us → From (suc k) vs → From k (us ++ vs)
join k us vs p q =
    record { above = λ v m. by v (Memᴰ.append_cases us m); once = apart_append us vs p.once q.once (λ v m n. off v (p.is v m) (q.above v n)) }
  where
    by : (v : Variable) → (v ∈ us) ⊎ (v ∈ vs) → k ≤ letter v
    by v (inl m) = let h : letter v ≡ k = p.is v m in omega arith
    by v (inr m) = let h : suc k ≤ letter v = q.above v m in omega arith

    off : (v : Variable) → letter v ≡ k → suc k ≤ letter v → ⊥
    off v e h = omega arith

mapped : (k : ℕ) {A : Type 0} (f : A → Variable) (xs : List A) → ((x : A) → letter (f x) ≡ k) → (v : Variable) → v ∈ map f xs → letter v ≡ k
mapped k f xs h v m = let r = Memᴰ.of_map f xs m in ap letter (sym r.2) ∙ h r.0

-- what is made of each number of a list: f x of each element that x gives
of_numbers : (k : ℕ) {A : Type 0} (f : ℕ → A → Variable) (els : ℕ → List A) (xs : List ℕ) → ((x : ℕ) (a : A) → letter (f x a) ≡ k)
    → ((x y : ℕ) (a c : A) → f x a ≡ f y c → x ≡ y) → Apart xs → ((x : ℕ) → Apart (map (f x) (els x))) → Just k (each xs (λ x. map (f x) (els x)))
of_numbers k f els xs h inj p q = record { is = all; once = apart_each (λ x. x) (λ x. map (f x) (els x)) xs p (λ x m. q x) key }
  where
    all : (v : Variable) → v ∈ each xs (λ x. map (f x) (els x)) → letter v ≡ k
    all v m = let r = of_each (λ x. map (f x) (els x)) xs m in mapped k (f r.0) (els r.0) (h r.0) v r.2

    key : (x y : ℕ) (v : Variable) → v ∈ map (f x) (els x) → v ∈ map (f y) (els y) → x ≡ y
    key x y v m n = let r = Memᴰ.of_map (f x) (els x) m in let s = Memᴰ.of_map (f y) (els y) n in inj x y r.0 s.0 (r.2 ∙ sym s.2)

-- the arguments of a letter

pub z_cell : (x y : ℕ) → Z x ≡ Z y → x ≡ y
z_cell x y e = cc

s_cell : (x y : ℕ) → S x ≡ S y → x ≡ y
s_cell x y e = cc

e_cell : (x y : ℕ) (a c : Neighbour) → out x a ≡ out y c → x ≡ y
e_cell x y a c e = cc

pub e_way : (x y : ℕ) (d e : Direction) → E x d ≡ E y e → d ≡ e
e_way x y d e p = cc

q_cell : (x y k l : ℕ) → Q x k ≡ Q y l → x ≡ y
q_cell x y k l e = cc

q_count : (x k l : ℕ) → Q x k ≡ Q x l → k ≡ l
q_count x k l e = cc

t_clue : (a c i j k l : ℕ) → T a i k ≡ T c j l → a ≡ c
t_clue a c i j k l e = cc

t_row : (a i j k l : ℕ) → T a i k ≡ T a j l → i ≡ j
t_row a i j k l e = cc

pub t_count : (a j k l : ℕ) → T a j k ≡ T a j l → k ≡ l
t_count a j k l e = cc

pub counts_apart : (a n j : ℕ) → Apart (counts_at a n j)
counts_apart a n j = apart_map (λ t. T a j t) (t_count a j) (up_to (suc n)) (apart_from 0 (suc n))

module _ (b : Board) where
  part_z : Just 0 (blacks b)
  part_z = record { is = mapped 0 (λ x. Z x) (opens b) (λ x. refl); once = apart_map (λ x. Z x) z_cell (opens b) (apart_opens b) }

  part_s : Just 1 (starts b)
  part_s = record { is = mapped 1 (λ x. S x) (opens b) (λ x. refl); once = apart_map (λ x. S x) s_cell (opens b) (apart_opens b) }

  pub outgoing_apart : (x : ℕ) → Apart (outgoing b x)
  outgoing_apart x = links_apart b x (out x) (λ y z. e_way x x y.way z.way)

  part_e : Just 2 (link_variables b)
  part_e = of_numbers 2 out (λ x. neighbours b x directions) (opens b) (λ x y. refl) e_cell (apart_opens b) outgoing_apart

  part_q : Just 3 (distances b)
  part_q =
      of_numbers 3 (λ x k. Q x k) (λ x. up_to (open_count b)) (opens b) (λ x k. refl) q_cell (apart_opens b)
      (λ x. apart_map (λ k. Q x k) (q_count x) (up_to (open_count b)) (apart_from 0 (open_count b)))

  clue_just : (c : Clue) → Just 4 (clue_counts c)
  clue_just c =
      of_numbers 4 (λ j t. T c.cell j t) (λ j. up_to (suc c.number)) (up_to (suc (length c.line))) (λ j t. refl) (t_row c.cell)
      (apart_from 0 (suc (length c.line))) (counts_apart c.cell c.number)

  part_t : Laws b → Just 4 (counts b)
  part_t law = record { is = all; once = apart_each (λ (c : Clue). c.cell) clue_counts b.clues law.clues_apart (λ c m. (clue_just c).once) key }
    where
      all : (v : Variable) → v ∈ counts b → letter v ≡ 4
      all v m = let r = of_each clue_counts b.clues m in (clue_just r.0).is v r.2

      of_clue : (c : Clue) (v : Variable) → v ∈ clue_counts c → (j : ℕ) × (t : ℕ) × (T c.cell j t ≡ v)
      of_clue c v m =
          let r = of_each (counts_at c.cell c.number) (up_to (suc (length c.line))) m in
          let s = Memᴰ.of_map (λ t. T c.cell r.0 t) (up_to (suc c.number)) r.2 in
          (r.0, s.0, s.2)

      key : (c d : Clue) (v : Variable) → v ∈ clue_counts c → v ∈ clue_counts d → c.cell ≡ d.cell
      key c d v m n = let r = of_clue c v m in let s = of_clue d v n in t_clue c.cell d.cell r.0 s.0 r.1 s.1 (r.2 ∙ sym s.2)

  pub variables_apart : Laws b → Apart (variables b)
  unfolding variables
  variables_apart law = (join 0 _ _ part_z (join 1 _ _ part_s (join 2 _ _ part_e (join 3 _ _ part_q (join 4 _ _ (part_t law) no_more))))).once
    where
      no_more : From 5 []
      no_more = record { above = λ v m. absurd (Memᴰ.not-nil m); once = tt }
