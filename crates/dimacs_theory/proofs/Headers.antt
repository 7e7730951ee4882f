-- The header at a place: comment lines, `p cnf `, V and C, each part by its bytes. Assumes nothing.
use Prim.Native.Nat.{ℕ, suc, ◌-◌, ◌≤◌, ◌<◌, ◌^◌}
use native.Mathlib.Omega.{arith}
use native.Mathlib.Numerals.{add-one}
use borrow.Author.Tests.{lt-ltb, ltb-true, ne_eqb, eqb-true, eqb-false}
use lib.Dec.{eqb, ltb}
use lib.ListN.{length, get_or, drop}
use lib.Seq.{drop-drop}
use mathlib.Core.Path.{◌≡◌, refl, sym, ◌∙◌, ap, subst, subst₂}
use mathlib.Core.Logic.{◌↔◌}
use mathlib.Core.Bool.{Bool, true, false, cond}
use mathlib.Core.List.{List, [], ◌∷◌, ◌++◌, append_assoc}
use Rattle.answers.specs.Lists.{All}
use Rattle.answers.proofs.Bools.{clash}
use Rattle.cnf.specs.Literals.{most_variables}
use Rattle.text.specs.Decimal.{line_feed, space, decimal}
use Rattle.dimacs.specs.Text.{preamble, CommentByte, comment_line, comment_lines}
use Rattle.dimacs.specs.Reader.{Header, header_with, is_digit}
use Rattle.dimacs.specs.Tokens.{stands, refused, and_then, has_byte, followed_by, number_at, comment_byte}
use Rattle.dimacs.specs.Tokens.{comments_from, comments_at, word_at, field_at, header_counts_at, header_at}
use Rattle.dimacs.proofs.Tokens.{comments_step}
use Rattle.dimacs_theory.specs.Tokens.{Has, HeaderStands}
use Rattle.dimacs_theory.proofs.Bytes.{no_token, then_found, has_nothing, has_then, has_as, has_split, has-byte, has_first, first_has}
use Rattle.dimacs_theory.proofs.Numbers.{number_exactly}

-- comment lines stand there; inside one, after the rest of it
record Outside (text : List ℕ) (a c : ℕ) : Type 0 where
  comments : List (List ℕ)
  bytes : All (All CommentByte) comments
  has : Has text a (comment_lines comments) c

record Inside (text : List ℕ) (a c : ℕ) : Type 0 where
  rest : List ℕ
  rest_bytes : All CommentByte rest
  comments : List (List ℕ)
  bytes : All (All CommentByte) comments
  has : Has text a (rest ++ (line_feed ∷ comment_lines comments)) c

abbrev Comments : List ℕ → Bool → ℕ → ℕ → Type 0
Comments text true a c = Inside text a c
Comments text false a c = Outside text a c

module _ (text : List ℕ) where
  -- `p cnf `
  word-found : (ws : List ℕ) (a : ℕ) {c : ℕ} → word_at text ws a ≡ stands tt c → Has text a ws c
  unfolding word_at
  word-found [] a {c} r = let e : a ≡ c = cc in subst (Has text a []) e (has_nothing a)
  word-found (w ∷ ws) a {c} r = by (has_byte text w a) refl r (word-found ws (suc a))
    where
      by : (t : Bool) → has_byte text w a ≡ t → and_then {A = Unit} (cond t (stands tt (suc a)) (refused a)) (λ _ b. word_at text ws b) ≡ stands tt c
          → (word_at text ws (suc a) ≡ stands tt c → Has text (suc a) ws c) → Has text a (w ∷ ws) c
      by true t r go = has_then (has-byte t) (go r)
      by false t r go = no_token r

  found_word : (ws : List ℕ) (a : ℕ) {c : ℕ} → Has text a ws c → word_at text ws a ≡ stands tt c
  unfolding word_at
  found_word [] a p = ap (stands tt) (omega (arith, p.place))
  found_word (w ∷ ws) a p = let f = has_first p in rw (first_has f) (found_word ws (suc a) f.rest)

  -- V and C
  module _ (bound end : ℕ) (a : ℕ) {x c : ℕ} where
    field_found : field_at text bound end a ≡ stands x c → Has text a (decimal x ++ (end ∷ [])) c × (x ≤ bound)
    field_found r =
        let t = then_found (number_at text bound true a) (λ y b. followed_by text end y b) r in
        let s = (number_exactly text bound true a t.0 t.1).0 t.2 in
        by t.0 t.1 s.has s.few (has_byte text end t.1) refl t.3
      where
        by : (y b : ℕ) → Has text a (decimal y) b → y ≤ bound → (t : Bool) → has_byte text end b ≡ t → cond t (stands y (suc b)) (refused b) ≡ stands x c
            → Has text a (decimal x ++ (end ∷ [])) c × (x ≤ bound)
        by y b p l true t r =
            let e : y ≡ x = cc in
            let f : suc b ≡ c = cc in
            (subst (Has text a (decimal x ++ (end ∷ []))) f (has_then (has_as (ap decimal e) p) (has-byte t)), subst (λ z. z ≤ bound) e l)
        by y b p l false t r = no_token r

    found_field : is_digit end ≡ false → Has text a (decimal x ++ (end ∷ [])) c → x ≤ bound → field_at text bound end a ≡ stands x c
    found_field d p l =
        let s = has_split (decimal x) p in
        let b = s.0 in
        let f = has_first s.2 in
        let q : number_at text bound true a ≡ stands x b = (number_exactly text bound true a x b).1
        (record { has = s.1; few = l; allowed = λ z. clash refl z; over = λ _. rw f.byte d }) in
        rw (q, first_has f) (ap (stands x) (omega (arith, f.rest.place)))

  -- a comment line, from inside it, and comment lines
  found-line : (ds : List ℕ) (a : ℕ) {b : ℕ} → All CommentByte ds → Has text a (ds ++ (line_feed ∷ [])) b
      → comments_from true (drop a text) a ≡ comments_from false (drop b text) b
  found-line [] a {b} q p =
      let f = has_first p in
      let e : suc a ≡ b = omega (arith, f.rest.place) in
      comments_step text a f.inside true ∙ rw (f.byte, e)
  found-line (d ∷ ds) a q p =
      let f = has_first p in
      comments_step text a f.inside true ∙ rw (f.byte, ne_eqb d line_feed q.0.1, lt-ltb d 256 q.0.0) (found-line ds (suc a) q.1 f.rest)

  found_comments : (cs : List (List ℕ)) (a : ℕ) {b : ℕ} → All (All CommentByte) cs → Has text a (comment_lines cs) b → b < length text → get_or text b 0 ≡ 112
      → comments_at text a ≡ stands tt b
  found_comments [] a {b} q p h m =
      let e : a ≡ b = omega (arith, p.place) in
      rw e (comments_step text b h false ∙ rw m)
  found_comments (ds ∷ cs) a q p h m =
      let s = has_split (comment_line ds) p in
      let f = has_first s.1 in
      comments_step text a f.inside false ∙ rw f.byte (found-line ds (suc a) q.0 f.rest ∙ found_comments cs s.0 q.1 s.2 h m)

  comments_found : (bs : List ℕ) (a : ℕ) {c : ℕ} → drop a text ≡ bs → (inside : Bool) → comments_from inside bs a ≡ stands tt c → Comments text inside a c
  unfolding comments_from
  comments_found [] a e inside r = no_token r
  comments_found (b ∷ bs) a {c} e inside r = by inside (eqb b line_feed) refl (ltb b 256) refl (eqb b 99) refl r (comments_found bs (suc a) next)
    where
      next : drop (suc a) text ≡ bs
      next = rw add-one at (sym (drop-drop 1 a text) ∙ ap (drop 1) e)

      byte : Has text a (b ∷ []) (suc a)
      byte = record { is = e ∙ ap (λ cs. b ∷ cs) (sym next); place = omega arith }

      same : (k : ℕ) → eqb b k ≡ true → Has text a (k ∷ []) (suc a)
      same k q = has_as (ap (λ x. x ∷ []) (eqb-true b k q)) byte

      by : (inside f : Bool) → eqb b line_feed ≡ f → (s : Bool) → ltb b 256 ≡ s → (t : Bool) → eqb b 99 ≡ t
          → comment_byte inside b a (λ i. comments_from i bs (suc a)) ≡ stands tt c
          → ((i : Bool) → comments_from i bs (suc a) ≡ stands tt c → Comments text i (suc a) c) → Comments text inside a c
      by true true p s q t u r go =
          let g = go false (rw p at r) in
          record { rest = []; rest_bytes = tt; comments = g.comments; bytes = g.bytes; has = has_then (same line_feed p) g.has }
      by true false p true q t u r go =
          let g = go true (rw (p, q) at r) in
          record {
            rest = b ∷ g.rest;
            rest_bytes = ((ltb-true b 256 q, eqb-false b line_feed p), g.rest_bytes);
            comments = g.comments;
            bytes = g.bytes;
            has = has_then byte g.has;
          }
      by true false p false q t u r go = no_token (rw (p, q) at r)
      by false f p s q true u r go =
          let g = go true (rw u at r) in
          record {
            comments = g.rest ∷ g.comments;
            bytes = (g.rest_bytes, g.bytes);
            has = has_as (sym (append_assoc (99 ∷ g.rest) (line_feed ∷ []) (comment_lines g.comments))) (has_then (same 99 u) g.has);
          }
      by false f p s q false u r go = let z : a ≡ c = cc in record { comments = []; bytes = tt; has = subst (Has text a []) z (has_nothing a) }

  -- the parts of the header, one after the other
  header_stands : {a b d e c : ℕ} (v k : ℕ) → Outside text a b → Has text b preamble d
      → Has text d (decimal v ++ (space ∷ [])) e × (v ≤ most_variables) → Has text e (decimal k ++ (line_feed ∷ [])) c × (k ≤ 2 ^ 64 - 1)
      → HeaderStands text a (header_with v k) c
  header_stands v k g w p q =
      let n = q.1 in
      let counts = has_as (append_assoc (decimal v) (space ∷ []) (decimal k ++ (line_feed ∷ []))) (has_then p.0 q.0) in
      record { comments = g.comments; bytes = g.bytes; has = has_then g.has (has_then w counts); few = p.1; counted = omega arith }

  counts-found : {a b d c : ℕ} {h : Header} → Outside text a b → Has text b preamble d → header_counts_at text d ≡ stands h c → HeaderStands text a h c
  counts-found {a} {b} {d} {c} {h} g w r =
      let one = then_found (field_at text most_variables space d)
      (λ v e. and_then (field_at text (2 ^ 64 - 1) line_feed e) (λ k f. stands (header_with v k) f)) r in
      let two = then_found (field_at text (2 ^ 64 - 1) line_feed one.1) (λ k f. stands (header_with one.0 k) f) one.3 in
      let q = two.3 in
      let e : header_with one.0 two.0 ≡ h = cc in
      let f : two.1 ≡ c = cc in
      subst₂ (HeaderStands text a) e f (header_stands one.0 two.0 g w (field_found most_variables space d one.2)
      (field_found (2 ^ 64 - 1) line_feed one.1 two.2))

  header_found : {a c : ℕ} {h : Header} → header_at text a ≡ stands h c → HeaderStands text a h c
  header_found {a} r =
      let one = then_found (comments_at text a) (λ _ b. and_then (word_at text preamble b) (λ _ d. header_counts_at text d)) r in
      let two = then_found (word_at text preamble one.1) (λ _ d. header_counts_at text d) one.3 in
      counts-found (comments_found (drop a text) a refl false one.2) (word-found preamble one.1 two.2) two.3

  found_header : {a c : ℕ} {h : Header} → HeaderStands text a h c → header_at text a ≡ stands h c
  found_header {a} {c} {h} s =
      let one = has_split (comment_lines s.comments) s.has in
      let two = has_split preamble one.2 in
      let n = s.counted in
      let parts = sym (append_assoc (decimal h.variables) (space ∷ []) (decimal h.clauses ++ (line_feed ∷ []))) in
      let three = has_split (decimal h.variables ++ (space ∷ [])) (has_as parts two.2) in
      let f = has_first one.2 in
      rw (
        found_comments s.comments a s.bytes one.1 f.inside f.byte,
        found_word preamble one.0 two.1,
        found_field most_variables space two.0 refl three.1 s.few,
        found_field (2 ^ 64 - 1) line_feed three.0 refl three.2 (omega arith),
      )

  pub header_exactly : (a : ℕ) (h : Header) (c : ℕ) → header_at text a ≡ stands h c ↔ HeaderStands text a h c
  header_exactly a h c = (header_found, found_header)
