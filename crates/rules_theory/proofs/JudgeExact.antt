-- The judge says yes exactly of a solution: each row's test against the rule that it stands for. Assumes nothing.
use Prim.Native.Nat.{ℕ, ◌<◌}
use native.Mathlib.Omega.{arith}
use native.Mathlib.Decide.{dec_lt}
use lib.Dec.{eqb}
use lib.ListN.{length, get_or, get_or-eq_default}
use borrow.Author.Tests.{eqb-true, eq-eqb, not-false}
use mathlib.Core.Path.{◌≡◌, refl, sym, ◌∙◌, ap}
use mathlib.Core.Bool.{Bool, true, false, not, ◌||◌}
use mathlib.Core.Logic.{◌↔◌}
use Rattle.std.specs.Prelude.{Option, None, Some}
use Rattle.answers.proofs.Options.{some-none}
use mathlib.Core.List.{List, [], ◌∷◌}
use Rattle.answers.specs.Outcome.{cause}
use Rattle.answers.specs.First.{first_where}
use Rattle.answers.proofs.First.{first_none, none_first, first_some, some_first}
use Rattle.answers.proofs.Bools.{clash, off, true_not, and_both, both_and, other_half, and_off, or_neither}
use Rattle.rules.specs.declared.Direction.{Direction}
use Rattle.rules.specs.declared.Direction.TheVariants.{North as north, East as east, South as south, West as west}
use Rattle.answers.specs.Lists.{how_many, All}
use Rattle.rules.specs.Directions.{opposite, degree}
use Rattle.rules.specs.Board.{Clue, Board}
use Rattle.rules.specs.Drawing.{Links, Reach, byte_link, link_at, black_at, Allowed, SolutionBytes}
use Rattle.rules.specs.Judge.{there, touches_at, unmatched_link, unmatched_link_at, white_at, off_loop_at, unless_met, unmet_clue, from_first, wrong_drawing, wrong_byte}
use Rattle.rules.specs.Judge.{touching, clue_not_met, link_unmatched, not_two_links, not_one_loop, judge_rows}
use Rattle.rules.proofs.Boards.{Laws}
use Rattle.rules_theory.specs.Places.{Met}
use Rattle.rules_theory.proofs.Directions.{all_four}
use Rattle.rules_theory.proofs.Whole.{lead, lead_reaches, reaches}
use Rattle.answers.proofs.Rows.{Clear, no-cause}
use Rattle.rules_theory.proofs.Bytes.{allowed_byte, no_links_0, no_links_10, no_links_20}

there_is : (test : ℕ → Bool) (o : Option ℕ) → there test o ≡ true → (y : ℕ) × (o ≡ Some y) × (test y ≡ true)
there_is test None h = clash h refl
there_is test (Some y) h = (y, refl, h)

module _ (ds : List ℕ) where
  clues_met : (cs : List Clue) → unmet_clue (black_at ds) cs ≡ None → All (Met ds) cs
  clues_met [] e = tt
  clues_met (c ∷ cs) e = by (eqb (how_many (black_at ds) c.line) c.number) refl e (clues_met cs)
    where
      by : (t : Bool) → eqb (how_many (black_at ds) c.line) c.number ≡ t → unless_met t c.cell (unmet_clue (black_at ds) cs) ≡ None
          → (unmet_clue (black_at ds) cs ≡ None → All (Met ds) cs) → All (Met ds) (c ∷ cs)
      by true q e go = (eqb-true _ _ q, go e)
      by false q e go = absurd (some-none c.cell e)

  met_clues : (cs : List Clue) → All (Met ds) cs → unmet_clue (black_at ds) cs ≡ None
  met_clues [] h = refl
  met_clues (c ∷ cs) h = ap (λ t. unless_met t c.cell (unmet_clue (black_at ds) cs)) (eq-eqb _ _ h.0) ∙ met_clues cs h.1

module _ {b : Board} (law : Laws b) (ds : List ℕ) where
  -- 7: drawing not N bytes
  length_right : wrong_drawing b ds ≡ None ↔ length ds ≡ b.size
  length_right = (λ e. eqb-true _ _ (not-false _ (no-cause _ e)), λ h. ap cause (true_not _ (eq-eqb _ _ h)))

  -- 10: drawing byte
  bytes_right : wrong_byte b ds ≡ None ↔ ((x : ℕ) → x < b.size → Allowed (b.is_open x) (get_or ds x 0))
  bytes_right = (
    λ e x h. (allowed_byte (b.is_open x) (get_or ds x 0)).0 (first_none _ _ e x h),
    λ a. none_first _ _
        (λ x h. (allowed_byte (b.is_open x) (get_or ds x 0)).1 (a x h)),
  )

  -- 11: black beside black. East and south of each cell cover north and west too
  abbrev Untouched : Type 0
  Untouched = (d : Direction) (x y : ℕ) → b.next d x ≡ Some y → black_at ds x ≡ true → black_at ds y ≡ true → ⊥

  touching_right : touching b ds ≡ None ↔ Untouched
  touching_right = (
    λ e. untouched (first_none _ _ e),
    λ u. none_first _ _
        (λ x h. and_off (black_at ds x) (there (black_at ds) (b.next east x) || there (black_at ds) (b.next south x))
        (λ p. rw (not_there u east x p, not_there u south x p))),
  )
    where
      -- neither to the east nor to the south of a black cell is a black one
      sides : ((x : ℕ) → x < b.size → touches_at b ds x ≡ false) → (d : Direction) (x y : ℕ) → b.next d x ≡ Some y → black_at ds x ≡ true
          → (there (black_at ds) (b.next east x) ≡ false) × (there (black_at ds) (b.next south x) ≡ false)
      sides c d x y e p =
          or_neither (there (black_at ds) (b.next east x)) (there (black_at ds) (b.next south x))
          (other_half (black_at ds x) _ (c x (law.wired.inside d x y e).0) p)

      beside : (o : Option ℕ) (y : ℕ) → o ≡ Some y → there (black_at ds) o ≡ false → black_at ds y ≡ true → ⊥
      beside o y e n q = clash q (sym (ap (there (black_at ds)) e) ∙ n)

      untouched : ((x : ℕ) → x < b.size → touches_at b ds x ≡ false) → Untouched
      untouched c north x y e p q = let r = law.wired.back north x y e in beside _ x r (sides c south y x r q).1 p
      untouched c east x y e p q = beside _ y e (sides c east x y e p).0 q
      untouched c south x y e p q = beside _ y e (sides c south x y e p).1 q
      untouched c west x y e p q = let r = law.wired.back west x y e in beside _ x r (sides c east y x r q).0 p

      not_there : Untouched → (d : Direction) (x : ℕ) → black_at ds x ≡ true → there (black_at ds) (b.next d x) ≡ false
      not_there u d x p = off _ (λ q. let w = there_is (black_at ds) (b.next d x) q in u d x w.0 w.1 p w.2)

  -- 12: clue not met
  clues_right : clue_not_met b ds ≡ None ↔ All (Met ds) b.clues
  clues_right = (clues_met ds b.clues, met_clues ds b.clues)

  module _ (long : length ds ≡ b.size) (allowed : (x : ℕ) → x < b.size → Allowed (b.is_open x) (get_or ds x 0)) where
    -- a test that fails at 0, as beyond the board, and at 0x20 holds at open cells only
    opened : (x : ℕ) (t : ℕ → Bool) → t 0 ≡ false → t 0x20 ≡ false → t (get_or ds x 0) ≡ true → b.is_open x ≡ true
    opened x t z c h = on_board (dec_lt x b.size)
      where
        by : (o : Bool) → b.is_open x ≡ o → Allowed o (get_or ds x 0) → b.is_open x ≡ true
        by true e a = e
        by false e a = clash h (ap t a ∙ c)

        on_board : Dec (x < b.size) → b.is_open x ≡ true
        on_board (yes l) = by (b.is_open x) refl (allowed x l)
        on_board (no l) = clash h (ap t (get_or-eq_default ds 0 (omega arith)) ∙ z)

    link_white : (x : ℕ) (d : Direction) → link_at ds x d ≡ true → white_at b ds x ≡ true
    link_white x d h =
        both_and _ _ (opened x (λ v. byte_link v d) (no_links_0 d) (no_links_20 d) h)
        (ap not (off (black_at ds x) (λ k. clash h (ap (λ v. byte_link v d) (eqb-true _ _ k) ∙ no_links_10 d))))

    -- 13: link unmatched or off the board
    abbrev Matched : Type 0
    Matched = (x : ℕ) (d : Direction) → link_at ds x d ≡ true → (y : ℕ) × (b.next d x ≡ Some y) × (link_at ds y (opposite d) ≡ true)

    matched_right : link_unmatched b ds ≡ None ↔ Matched
    matched_right = (matched, λ m. none_first _ _ (λ x h. rw (tied m x north, tied m x east, tied m x south, tied m x west)))
      where
        each_way : (x : ℕ) → unmatched_link_at b ds x ≡ false → (d : Direction) → unmatched_link b ds x d ≡ false
        each_way x h =
            let (nes, w) = or_neither (unmatched_link b ds x north || unmatched_link b ds x east || unmatched_link b ds x south) (unmatched_link b ds x west) h in
            let (ne, s) = or_neither (unmatched_link b ds x north || unmatched_link b ds x east) (unmatched_link b ds x south) nes in
            let (n, e) = or_neither (unmatched_link b ds x north) (unmatched_link b ds x east) ne in
            all_four (λ d. unmatched_link b ds x d ≡ false) n e s w

        matched : link_unmatched b ds ≡ None → Matched
        matched e x d h =
            let inside = law.open_stays x (and_both _ _ (link_white x d h)).0 in
            there_is (λ y. link_at ds y (opposite d)) (b.next d x) (not-false _ (other_half (link_at ds x d) _ (each_way x (first_none _ _ e x inside) d) h))

        tied : Matched → (x : ℕ) (d : Direction) → unmatched_link b ds x d ≡ false
        tied m x d = and_off (link_at ds x d) _ (λ h. let w = m x d h in true_not _ (ap (there (λ y. link_at ds y (opposite d))) w.1 ∙ w.2))

  -- 14: white cell without exactly two links
  two_right : not_two_links b ds ≡ None ↔ ((x : ℕ) → x < b.size → white_at b ds x ≡ true → degree (link_at ds x) ≡ 2)
  two_right = (
    λ e x h w. eqb-true _ _ (not-false _ (other_half _ _ (first_none _ _ e x h) w)),
    λ t. none_first _ _
        (λ x h. and_off _ _ (λ w. true_not _ (eq-eqb _ _ (t x h w)))),
  )

  -- 15: no white cell, or not one loop
  abbrev Whole : Type 0
  Whole = (t : ℕ) × (t < b.size) × (white_at b ds t ≡ true) × ((x : ℕ) → x < b.size → white_at b ds x ≡ true → Reach b.next (link_at ds) t x)

  loop_right : Links b.size b.next (white_at b ds) (link_at ds) → not_one_loop b ds ≡ None ↔ Whole
  loop_right L = (by (first_where (white_at b ds) b.size) refl, back)
    where
      by : (o : Option ℕ) → first_where (white_at b ds) b.size ≡ o → from_first o (λ s. first_where (off_loop_at b ds s) b.size) ≡ None → Whole
      by None e h = absurd (some-none 0 h)
      by (Some s) e h =
          let F = first_some (white_at b ds) b.size s e in
          (s, F.below, F.holds, λ x l w. (reaches law.wired L F x).1 (not-false _ (other_half (white_at b ds x) _ (first_none _ _ h x l) w)))

      back : Whole → not_one_loop b ds ≡ None
      back w =
          let (s, F) = lead law.wired L w in
          ap (λ (o : Option ℕ). from_first o (λ s. first_where (off_loop_at b ds s) b.size)) (some_first (white_at b ds) b.size F)
          ∙ none_first (off_loop_at b ds s) b.size (λ x l. and_off (white_at b ds x) _
          (λ p. true_not _ ((reaches law.wired L F x).0 (lead_reaches law.wired L w F x l p))))

  -- 10, 13 and 14 make the links
  pub clear_links : length ds ≡ b.size → wrong_byte b ds ≡ None → link_unmatched b ds ≡ None → not_two_links b ds ≡ None
      → Links b.size b.next (white_at b ds) (link_at ds)
  clear_links long c10 c13 c14 =
      let allowed = bytes_right.0 c10 in
      record { matched = (matched_right long allowed).0 c13; at_white = link_white long allowed; two = two_right.0 c14 }

  -- all rows
  pub clear_solution : Clear (judge_rows b ds) → SolutionBytes b ds
  clear_solution (c7, (c10, (c11, (c12, (c13, (c14, (c15, c))))))) =
      let long = length_right.0 c7 in
      let allowed = bytes_right.0 c10 in
      let links = clear_links long c10 c13 c14 in
      record {
        long = long;
        allowed = allowed;
        solution = record {
          only_open = λ x h. opened long allowed x (λ v. eqb v 0x10) refl refl h;
          untouched = touching_right.0 c11;
          met = clues_right.0 c12;
          links = links;
          whole = (loop_right links).0 c15;
        };
      }

  pub solution_clear : SolutionBytes b ds → Clear (judge_rows b ds)
  solution_clear S =
      let sol = S.solution in (
        length_right.1 S.long,
        (
          bytes_right.1 S.allowed,
          (
            touching_right.1 sol.untouched,
            (
              clues_right.1 sol.met,
              ((matched_right S.long S.allowed).1 sol.links.matched, (two_right.1 sol.links.two, ((loop_right sol.links).1 sol.whole, tt))),
            ),
          ),
        ),
      )
