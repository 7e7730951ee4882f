-- Which variables there are, said of each letter. Assumes nothing.
use Prim.Native.Nat.{ℕ, suc, ◌≤◌, ◌<◌}
use native.Mathlib.Omega.{arith}
use lib.ListN.{length}
use mathlib.Core.Path.{◌≡◌, refl, subst}
use mathlib.Core.Bool.{true}
use Rattle.std.specs.Prelude.{Some}
use mathlib.Core.Logic.{◌⊎◌, inl, inr}
use mathlib.Core.List.Memᴰ
use mathlib.Core.List.{List, ◌++◌}
use Rattle.answers.specs.Lists.{◌∈◌, up_to}
use Rattle.rules.specs.Board.{Clue, Board}
use Rattle.rules.proofs.Boards.{Laws}
use Rattle.encoder.specs.Variables.{Variable, Z, S, E, Q, T, directions, opens, open_count, Neighbour, neighbours, out, outgoing, blacks, starts}
use Rattle.encoder.specs.Variables.{link_variables, distances_at, distances, counts_at, clue_counts, counts, letters, variables}
use Rattle.answers.proofs.Elements.{in_each, of_each, in_joined, in_up_to, of_up_to}
use Rattle.encoder.proofs.Neighbours.{of_opens, in_opens, in_directions, Beside, of_neighbours, in_neighbours}

abbrev pub Known : Board → Variable → Type 0
Known b (Z x) = b.is_open x ≡ true
Known b (S x) = b.is_open x ≡ true
Known b (E x d) = (b.is_open x ≡ true) × ((y : ℕ) × (b.next d x ≡ Some y) × (b.is_open y ≡ true))
Known b (Q x k) = (b.is_open x ≡ true) × (k < open_count b)
Known b (T a j t) = (c : Clue) × (c ∈ b.clues) × (c.cell ≡ a) × (j ≤ length c.line) × (t ≤ c.number)

module _ (b : Board) where
  of_part : (us vs : List Variable) → ((v : Variable) → v ∈ us → Known b v) → ((v : Variable) → v ∈ vs → Known b v) → (v : Variable) → v ∈ (us ++ vs)
      → Known b v
  of_part us vs f g v m = by (Memᴰ.append_cases us m)
    where
      by : (v ∈ us) ⊎ (v ∈ vs) → Known b v
      by (inl n) = f v n
      by (inr n) = g v n

  of_z : (v : Variable) → v ∈ blacks b → Known b v
  of_z v m = let r = Memᴰ.of_map (λ x. Z x) (opens b) m in subst (Known b) r.2 (of_opens b r.1)

  of_s : (v : Variable) → v ∈ starts b → Known b v
  of_s v m = let r = Memᴰ.of_map (λ x. S x) (opens b) m in subst (Known b) r.2 (of_opens b r.1)

  of_e : (v : Variable) → v ∈ link_variables b → Known b v
  of_e v m =
      let r = of_each (outgoing b) (opens b) m in
      let q = Memᴰ.of_map (out r.0) (neighbours b r.0 directions) r.2 in
      let k = (of_neighbours b r.0 directions q.0 q.1).1 in
      subst (Known b) q.2 (of_opens b r.1, (q.0.cell, k.leads, k.opened))

  of_q : (v : Variable) → v ∈ distances b → Known b v
  of_q v m =
      let r = of_each (distances_at b) (opens b) m in
      let q = Memᴰ.of_map (λ k. Q r.0 k) (up_to (open_count b)) r.2 in
      subst (Known b) q.2 (of_opens b r.1, of_up_to (open_count b) q.1)

  of_t : (v : Variable) → v ∈ counts b → Known b v
  of_t v m =
      let r = of_each clue_counts b.clues m in
      let p = of_each (counts_at r.0.cell r.0.number) (up_to (suc (length r.0.line))) r.2 in
      let q = Memᴰ.of_map (λ t. T r.0.cell p.0 t) (up_to (suc r.0.number)) p.2 in
      let i = of_up_to (suc (length r.0.line)) p.1 in
      let l = of_up_to (suc r.0.number) q.1 in
      subst (Known b) q.2 (r.0, r.1, refl, omega arith, omega arith)

  pub of_variables : (v : Variable) → v ∈ variables b → Known b v
  unfolding variables
  of_variables = of_part _ _ of_z (of_part _ _ of_s (of_part _ _ of_e (of_part _ _ of_q (of_part _ _ of_t (λ v m. absurd (Memᴰ.not-nil m))))))

  module _ (law : Laws b) where
    -- the letters are in the list one after the other
    pub in_variables : (v : Variable) → Known b v → v ∈ variables b
    unfolding variables
    in_variables (Z x) h = in_joined {xss = letters b} (Memᴰ.head refl) (Memᴰ.map (λ x. Z x) (in_opens b law h))
    in_variables (S x) h = in_joined {xss = letters b} (Memᴰ.tail (Memᴰ.head refl)) (Memᴰ.map (λ x. S x) (in_opens b law h))
    in_variables (E x d) (h, (y, e, o)) =
        in_joined {xss = letters b} (Memᴰ.tail (Memᴰ.tail (Memᴰ.head refl)))
        (in_each (outgoing b) (in_opens b law h)
        (Memᴰ.map (out x) (in_neighbours b x directions (record { way = d; cell = y }) (in_directions d) (record { leads = e; opened = o }))))
    in_variables (Q x k) (h, l) =
        in_joined {xss = letters b} (Memᴰ.tail (Memᴰ.tail (Memᴰ.tail (Memᴰ.head refl))))
        (in_each (distances_at b) (in_opens b law h) (Memᴰ.map (λ k. Q x k) (in_up_to (open_count b) k l)))
    in_variables (T a j t) (c, m, e, h, l) =
        subst (λ z. T z j t ∈ variables b) e
        (in_joined {xss = letters b} (Memᴰ.tail (Memᴰ.tail (Memᴰ.tail (Memᴰ.tail (Memᴰ.head refl)))))
        (in_each clue_counts m
        (in_each (counts_at c.cell c.number) (in_up_to (suc (length c.line)) j (omega arith))
        (Memᴰ.map (λ t. T c.cell j t) (in_up_to (suc c.number) t (omega arith))))))

    pub in_e : (x : ℕ) (y : Neighbour) → b.is_open x ≡ true → Beside b x y → out x y ∈ variables b
    in_e x y h k = in_variables (out x y) (h, (y.cell, k.leads, k.opened))

    pub in_t : {c : Clue} → c ∈ b.clues → (j t : ℕ) → j ≤ length c.line → t ≤ c.number → T c.cell j t ∈ variables b
    in_t {c} m j t h k = in_variables (T c.cell j t) (c, m, refl, h, k)
