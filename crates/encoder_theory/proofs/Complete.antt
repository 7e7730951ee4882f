-- The valuation that a solution tells makes the clauses true. Assumes nothing.
use Prim.Native.Nat.{ℕ, zero, suc, ◌-◌, ◌≤◌, ◌<◌}
use native.Mathlib.Omega.{arith}
use lib.Dec.{eqb}
use borrow.Author.Tests.{eqb-true, eq-eqb, not-false}
use mathlib.Core.Path.{◌≡◌, refl, sym, ◌∙◌, ap, subst}
use mathlib.Core.Bool.{Bool, true, false}
use Rattle.std.specs.Prelude.{Some}
use Rattle.std.proofs.lemmas.Option.{same_Some}
use mathlib.Core.Logic.{inl}
use mathlib.Core.List.Memᴰ
use mathlib.Core.List.{List, [], ◌∷◌, map}
use Rattle.answers.specs.Lists.{how_many, ◌∈◌, up_to}
use Rattle.answers.proofs.Bools.{clash}
use Rattle.rules.specs.declared.Direction.{Direction}
use Rattle.rules.specs.declared.Direction.TheVariants.{East as east}
use Rattle.rules.specs.Directions.{opposite}
use Rattle.rules.specs.Board.{Clue, Board}
use Rattle.rules.specs.Drawing.{Drawing, white, blacks_nearest, Solution}
use Rattle.rules.proofs.Boards.{Laws}
use Rattle.rules_theory.proofs.Directions.{opposite_injective}
use Rattle.encoder.specs.Variables.{Variable, Z, S, E, Q, directions, opens, open_count, Neighbour, neighbours, out, outgoing, distances_at, lower}
use Rattle.encoder.specs.Clauses.{plus, minus, east_south, touch, touching_at, clue_clauses, back, incoming, both_white, one_way, link_parts, links_at, clauses}
use Rattle.encoder.specs.Clauses.{black_before, start_parts, start_at, no_distance, not_ahead, nearer, from_one, nearer_each, distance_parts, distance_at, families}
use Rattle.answers.proofs.Elements.{all_each, all_map, all_at, all_joined, in_up_to, of_from, of_up_to, of_keep}
use Rattle.encoder.proofs.Neighbours.{of_opens, in_opens, in_directions, Beside, of_neighbours, in_neighbours, links_apart}
use Rattle.encoder.proofs.Distinct.{e_way, outgoing_apart}
use Rattle.encoder_theory.specs.Valuations.{Sat, Holds}
use Rattle.encoder_theory.proofs.Views.{by_minus, by_plus, both_not, plus_some, one_at_most}
use Rattle.encoder_theory.proofs.Oriented.{Sent}
use Rattle.encoder_theory.proofs.ClueLine.{black, clue_of}
use Rattle.encoder_theory.proofs.Read.{white_of, of_white}
use Rattle.encoder_theory.proofs.Sound.{open_black}
use Rattle.encoder_theory.proofs.DrawnValues.{line_is, first, leads, told, told_sent, told_white}

module _ (b : Board) (law : Laws b) (D : Drawing) (sol : Solution b D) where
  abbrev w : Variable → Bool
  w = told b law D sol

  abbrev s : ℕ
  s = first b law D sol

  abbrev bright : ℕ → Bool
  bright = white b D.black

  abbrev flow : Sent b.size b.next bright s (open_count b) (λ x d. told b law D sol (E x d)) (λ x k. told b law D sol (Q x k) ≡ true)
  flow = told_sent b law D sol

  s_white : (b.is_open s ≡ true) × (D.black s ≡ false)
  s_white = of_white b D.black s (leads b law D sol).holds

  -- 2. Clue lines
  clue_holds : (c : Clue) → c ∈ b.clues → Holds w (clue_clauses b.is_open c)
  clue_holds c m =
      clue_of w b.is_open c.cell c.number c.line
      (λ j t h k.
      ap (λ l. eqb (blacks_nearest D.black l j) t) (line_is b.clues law.clues_apart c m)
      ∙ ap (λ f. eqb (blacks_nearest f c.line j) t) (sym same))
      (ap (λ f. how_many f c.line) same ∙ all_at (λ (c : Clue). how_many D.black c.line ≡ c.number) sol.met m)
    where
      same : black w b.is_open c.cell c.number ≡ D.black
      same = open_black b.is_open D.black sol.only_open

  -- the families of an open cell
  module _ {x : ℕ} (m : x ∈ opens b) where
    inside : x < b.size
    inside = law.open_stays x (of_opens b m)

    lit : w (Z x) ≡ false → bright x ≡ true
    lit z = white_of b D.black x (of_opens b m) z

    beside : (ds : List Direction) (y : Neighbour) → y ∈ neighbours b x ds → Beside b x y
    beside ds y n = (of_neighbours b x ds y n).1

    member : (d : Direction) (y : ℕ) (ds : List Direction) → d ∈ ds → b.next d x ≡ Some y → bright y ≡ true → record { way = d; cell = y } ∈ neighbours b x ds
    member d y ds n e h = in_neighbours b x ds (record { way = d; cell = y }) n (record { leads = e; opened = (of_white b D.black y h).0 })

    -- a way leads from white to white
    whites : (ds : List Direction) (y : Neighbour) → y ∈ neighbours b x ds → w (out x y) ≡ true → (D.black x ≡ false) × (D.black y.cell ≡ false)
    whites ds y n p =
        let v = flow.oriented.leads x y.way p in
        let e : y.cell ≡ v.0 = same_Some y.cell v.0 (sym (beside ds y n).leads ∙ v.1) in
        ((of_white b D.black x v.2).1, ap D.black e ∙ (of_white b D.black v.0 v.3).1)

    -- 1. Touching
    touching_holds : Holds w (touching_at b x)
    touching_holds =
        all_map (Sat w) (touch x) (neighbours b x east_south)
        (λ y n. both_not w (Z x) (Z y.cell) (sol.untouched y.way x y.cell (beside east_south y n).leads))

    -- 3. Links
    links_hold : Holds w (links_at b x)
    links_hold =
        all_joined (Sat w) (link_parts b x) (
          all_each (Sat w) (both_white x) (neighbours b x directions) (λ y n. (
            both_not w (out x y) (Z x) (λ p q. clash q (whites directions y n p).0),
            (both_not w (out x y) (Z y.cell) (λ p q. clash q (whites directions y n p).1), tt),
          )),
          (
            (by_plus w (Z x) (map plus (outgoing b x)) way_out, tt),
            (
              one_at_most w (outgoing b x) (outgoing_apart b x) out_one,
              (
                (by_plus w (Z x) (map plus (incoming b x)) way_in, tt),
                (
                  one_at_most w (incoming b x)
                      (links_apart b x back
                      (λ y z e. opposite_injective y.way z.way (e_way y.cell z.cell (opposite y.way) (opposite z.way) e)))
                      in_one,
                  (
                    all_map (Sat w) (one_way x) (neighbours b x east_south)
                        (λ y n. both_not w (out x y) (back y) (flow.oriented.one_way x y.way y.cell (beside east_south y n).leads)),
                    tt,
                  ),
                ),
              ),
            ),
          ),
        )
      where
        way_out : w (Z x) ≡ false → Sat w (map plus (outgoing b x))
        way_out z =
            let (d, g) = flow.oriented.out x inside (lit z) in
            let v = flow.oriented.leads x d g in
            plus_some w (E x d) (Memᴰ.map (out x) (member d v.0 directions (in_directions d) v.1 v.3)) g

        out_one : (u v : Variable) → u ∈ outgoing b x → v ∈ outgoing b x → w u ≡ true → w v ≡ true → u ≡ v
        out_one u v i j p q =
            let (y, n, e) = Memᴰ.of_map (out x) (neighbours b x directions) i in
            let (z, o, f) = Memᴰ.of_map (out x) (neighbours b x directions) j in
            sym e ∙ ap (λ d. E x d) (flow.oriented.out_one x y.way z.way (ap w e ∙ p) (ap w f ∙ q)) ∙ f

        way_in : w (Z x) ≡ false → Sat w (map plus (incoming b x))
        way_in z =
            let (d, y, e, g) = flow.oriented.into x inside (lit z) in
            plus_some w (E y (opposite d)) (Memᴰ.map back (member d y directions (in_directions d) e (flow.oriented.leads y (opposite d) g).2)) g

        in_one : (u v : Variable) → u ∈ incoming b x → v ∈ incoming b x → w u ≡ true → w v ≡ true → u ≡ v
        in_one u v i j p q =
            let (y, n, e) = Memᴰ.of_map back (neighbours b x directions) i in
            let (z, o, f) = Memᴰ.of_map back (neighbours b x directions) j in
            let k = (beside directions y n).leads in
            let l = (beside directions z o).leads in
            let d = flow.oriented.in_one x y.way z.way y.cell z.cell k (ap w e ∙ p) l (ap w f ∙ q) in
            let c : y.cell ≡ z.cell = same_Some _ _ (sym k ∙ ap (λ d. b.next d x) d ∙ l) in
            sym e ∙ (λ t. E (c t) (opposite (d t))) ∙ f

    here : w (S x) ≡ true → x ≡ s
    here p = eqb-true x s p

    -- 4. Start
    start_holds : Holds w (start_at b x)
    start_holds =
        all_joined (Sat w) (start_parts b x) (
          (both_not w (S x) (Z x) (λ p q. clash q (ap D.black (here p) ∙ s_white.1)), tt),
          (
            all_map (Sat w) (black_before x) (lower b x) (λ y n. by_minus w (S x) (plus (Z y) ∷ []) (λ p. inl (before y n p))),
            ((by_minus w (S x) (map plus (map (out x) (neighbours b x (east ∷ [])))) eastbound, tt), tt),
          ),
        )
      where
        before : (y : ℕ) → y ∈ lower b x → w (S x) ≡ true → D.black y ≡ true
        before y n p =
            let k = of_keep b.is_open (up_to x) n in
            let f : bright y ≡ false = (leads b law D sol).first y (subst (λ z. y < z) (here p) (of_up_to x k.0)) in
            not-false (D.black y) (rw k.1 at f)

        eastbound : w (S x) ≡ true → Sat w (map plus (map (out x) (neighbours b x (east ∷ []))))
        eastbound p =
            let g : w (E x east) ≡ true = ap (λ z. w (E z east)) (here p) ∙ flow.eastward in
            let v = flow.oriented.leads x east g in
            plus_some w (E x east) (Memᴰ.map (out x) (member east v.0 (east ∷ []) (Memᴰ.head refl) v.1 v.3)) g

    -- 5. Distance
    distance_holds : Holds w (distance_at b x)
    distance_holds =
        all_joined (Sat w) (distance_parts b x) (
          (by_plus w (Z x) (map plus (distances_at b x)) has, tt),
          (
            all_map (Sat w) (no_distance x) (up_to (open_count b))
                (λ k n. both_not w (Z x) (Q x k) (λ p q. clash p (of_white b D.black x (told_white b law D sol x k q)).1)),
            (
              (
                by_minus w (S x) (plus (Q x 0) ∷ []) (λ p. inl (ap (λ z. w (Q z 0)) (here p) ∙ flow.counted.begins)),
                (by_plus w (S x) (minus (Q x 0) ∷ []) (λ p. by_minus w (Q x 0) [] (λ q. clash (eq-eqb x s (flow.counted.ends x q)) p)), tt),
              ),
              (
                all_map (Sat w) (not_ahead x) (from_one b) (λ k n. both_not w (S x) (Q x k) (none_black k (of_from 1 (open_count b - 1) n).0)),
                (
                  all_each (Sat w) (nearer_each b x) (neighbours b x directions) (λ y i. all_map (Sat w) (nearer x y) (from_one b) (λ k n.
                      by_minus w (out x y) (minus (Q x k) ∷ plus (Q y.cell (k - 1)) ∷ [])
                      (λ p. by_minus w (Q x k) (plus (Q y.cell (k - 1)) ∷ []) (λ q. inl (falls y i k (of_from 1 (open_count b - 1) n).0 p q))))),
                  tt,
                ),
              ),
            ),
          ),
        )
      where
        has : w (Z x) ≡ false → Sat w (map plus (distances_at b x))
        has z = let (k, l, q) = flow.counted.has x inside (lit z) in plus_some w (Q x k) (Memᴰ.map (λ k. Q x k) (in_up_to (open_count b) k l)) q

        none_black : (k : ℕ) → 1 ≤ k → w (S x) ≡ true → w (Q x k) ≡ true → ⊥
        none_black zero l p q = omega arith
        none_black (suc k) l p q = flow.counted.none_black k (ap (λ z. w (Q z (suc k))) (sym (here p)) ∙ q)

        falls : (y : Neighbour) → y ∈ neighbours b x directions → (k : ℕ) → 1 ≤ k → w (out x y) ≡ true → w (Q x k) ≡ true → w (Q y.cell (k - 1)) ≡ true
        falls y i zero h p q = absurd (omega arith)
        falls y i (suc k) h p q =
            let z : suc k - 1 ≡ k = omega arith in
            ap (λ n. w (Q y.cell n)) z ∙ flow.counted.falls x y.way y.cell k p (beside directions y i).leads q

  pub complete : Holds w (clauses b)
  unfolding clauses
  complete =
      all_joined (Sat w) (families b) (
        all_each (Sat w) (touching_at b) (opens b) (λ x m. touching_holds m),
        (
          all_each (Sat w) (clue_clauses b.is_open) b.clues clue_holds,
          (
            all_each (Sat w) (links_at b) (opens b) (λ x m. links_hold m),
            (
              (
                plus_some w (S s) (Memᴰ.map (λ x. S x) (in_opens b law s_white.0)) (eq-eqb s s refl),
                all_each (Sat w) (start_at b) (opens b) (λ x m. start_holds m),
              ),
              (all_each (Sat w) (distance_at b) (opens b) (λ x m. distance_holds m), tt),
            ),
          ),
        ),
      )
