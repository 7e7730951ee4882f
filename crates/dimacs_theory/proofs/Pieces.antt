-- Pieces one after the other: their bytes and numbers, the last byte, and one piece more. Assumes nothing.
use Prim.Native.Nat.{ℕ, suc, ◌+◌, ◌*◌, ◌≤◌, ◌<◌}
use native.Mathlib.Omega.{arith}
use borrow.Author.Tests.{eqb-true, lt-leb}
use lib.Dec.{eqb}
use lib.IntN.{ℤ, pos, negsuc}
use lib.ListN.{length, length-append}
use lib.Seq.{get_or_at}
use mathlib.Core.Path.{◌≡◌, refl, sym, ◌∙◌, ap, subst₂}
use mathlib.Core.Bool.{Bool, true, false, not, ◌||◌, cond}
use mathlib.Core.Logic.{◌⊎◌, inl, inr}
use mathlib.Core.List.{List, [], ◌∷◌, ◌++◌, append_assoc, append-nil, map}
use Rattle.answers.specs.Lists.{each}
use Rattle.answers.proofs.Bools.{clash}
use Rattle.answers.proofs.Elements.{each_append}
use Rattle.text.specs.Decimal.{line_feed, space, minus, digit, decimal}
use Rattle.cnf.specs.Literals.{closes, unclosed}
use Rattle.dimacs.specs.Text.{signed, behind, lines, comment_line}
use Rattle.dimacs.specs.Accepted.{tab, is_blank, Piece, blank, number, comment, piece_bytes, piece_numbers, bytes_of, numbers_of, last_byte}
use Rattle.dimacs.specs.Accepted.{EndsInNumber, MayStand, WellFormed}
use Rattle.dimacs.specs.Reader.{is_digit}
use Rattle.dimacs_theory.specs.Lines.{BlankRun, spaced_bytes, spaced_numbers, Spaced}
use Rattle.dimacs_theory.proofs.Decimals.{digit_by_digit}
use Rattle.dimacs_theory.proofs.Numbers.{is_digit_lem}

-- one piece more
pub each_more : {A B : Type 0} (f : A → List B) (xs : List A) (x : A) → each (xs ++ (x ∷ [])) f ≡ each xs f ++ f x
each_more f xs x = each_append f xs (x ∷ []) ∙ ap (λ ys. each xs f ++ ys) (append-nil (f x))

-- a piece that is no number adds none
pub numbers_same : (ps : List Piece) (p : Piece) → piece_numbers p ≡ [] → numbers_of (ps ++ (p ∷ [])) ≡ numbers_of ps
numbers_same ps p e = each_more piece_numbers ps p ∙ ap (λ ls. numbers_of ps ++ ls) e ∙ append-nil (numbers_of ps)

-- a list with an element more is cut before that one, or where the list itself is cut
last_cut : {A : Type 0} (xs front rest : List A) {x y : A} → xs ++ (x ∷ []) ≡ front ++ (y ∷ rest)
    → ((front ≡ xs) × (y ≡ x)) ⊎ ((zs : List A) × (xs ≡ front ++ (y ∷ zs)))
last_cut [] [] rest {x} {y} e = let h : y ≡ x = cc in inl (refl, h)
last_cut [] (f ∷ front) rest {y = y} e = absurd (omega (arith, ap length e, length-append front (y ∷ rest)))
last_cut (z ∷ xs) [] rest {y = y} e = let h : z ≡ y = cc in inr (xs, ap (λ w. w ∷ xs) h)
last_cut {A} (z ∷ xs) (f ∷ front) rest {x} {y} e =
    let t : xs ++ (x ∷ []) ≡ front ++ (y ∷ rest) = cc in
    let h : z ≡ f = cc in by h (last_cut xs front rest t)
  where
    by : z ≡ f → ((front ≡ xs) × (y ≡ x)) ⊎ ((zs : List A) × (xs ≡ front ++ (y ∷ zs)))
        → ((f ∷ front ≡ z ∷ xs) × (y ≡ x)) ⊎ ((zs : List A) × (z ∷ xs ≡ f ∷ front ++ (y ∷ zs)))
    by h (inl r) = inl (cc, r.1)
    by h (inr r) = let t = r.1 in inr (r.0, cc)

pub formed_none : WellFormed []
formed_none before after p e = absurd (omega (arith, ap length e, length-append before (p ∷ after)))

pub formed_more : {ps : List Piece} (p : Piece) → WellFormed ps → MayStand ps p → WellFormed (ps ++ (p ∷ []))
formed_more {ps} p g m before after q e = by (last_cut ps before after e)
  where
    by : ((before ≡ ps) × (q ≡ p)) ⊎ ((zs : List Piece) × (ps ≡ before ++ (q ∷ zs))) → MayStand before q
    by (inl r) = subst₂ MayStand (sym r.0) (sym r.1) m
    by (inr r) = g before r.0 q r.1

-- the last byte
pub last_more : (bs : List ℕ) (b : ℕ) → last_byte (bs ++ (b ∷ [])) ≡ b
last_more bs b = get_or_at (line_feed ∷ bs) b [] 0 (length (bs ++ (b ∷ []))) (omega (arith, length-append bs (b ∷ [])))

pub last_piece : (ps : List Piece) (p : Piece) (front : List ℕ) (b : ℕ) → piece_bytes p ≡ front ++ (b ∷ []) → last_byte (bytes_of (ps ++ (p ∷ []))) ≡ b
last_piece ps p front b e =
    ap last_byte (each_more piece_bytes ps p ∙ ap (λ bs. bytes_of ps ++ bs) e ∙ sym (append_assoc (bytes_of ps) front (b ∷ []))) ∙ last_more (bytes_of ps ++ front) b

pub last_blank : (ps : List Piece) (b : ℕ) → last_byte (bytes_of (ps ++ (blank b ∷ []))) ≡ b
last_blank ps b = last_piece ps (blank b) [] b refl

-- a number ends in a digit
decimal_last : (x : ℕ) (front : List ℕ) → is_digit (last_byte (front ++ decimal x)) ≡ true
decimal_last =
    digit_by_digit (λ x ds. (front : List ℕ) → is_digit (last_byte (front ++ ds)) ≡ true)
    (λ d h front. ap is_digit (last_more front (digit d)) ∙ is_digit_lem d h)
    (λ x d z h go front. ap (λ bs. is_digit (last_byte bs)) (sym (append_assoc front (decimal x) (digit d ∷ [])))
    ∙ ap is_digit (last_more (front ++ decimal x) (digit d)) ∙ is_digit_lem d h)

signed_last : (l : ℤ) (front : List ℕ) → is_digit (last_byte (front ++ signed l)) ≡ true
signed_last (pos n) front = decimal_last n front
signed_last (negsuc n) front =
    ap (λ bs. is_digit (last_byte bs)) (sym (append_assoc front (minus ∷ []) (decimal (suc n)))) ∙ decimal_last (suc n) (front ++ (minus ∷ []))

pub last_number : (ps : List Piece) (l : ℤ) → is_digit (last_byte (bytes_of (ps ++ (number l ∷ [])))) ≡ true
last_number ps l = ap (λ bs. is_digit (last_byte bs)) (each_more piece_bytes ps (number l)) ∙ signed_last l (bytes_of ps)

-- a blank is none
pub blank_low : (b : ℕ) → is_blank b ≡ true → b ≤ 32
blank_low b t = by (eqb b space) refl (eqb b tab) refl t
  where
    by : (s : Bool) → eqb b space ≡ s → (u : Bool) → eqb b tab ≡ u → s || u || eqb b line_feed ≡ true → b ≤ 32
    by true p u q t = let e = eqb-true b space p in omega arith
    by false p true q t = let e = eqb-true b tab q in omega arith
    by false p false q t = let e = eqb-true b line_feed t in omega arith

pub blank_no_digit : (b : ℕ) → is_blank b ≡ true → is_digit b ≡ false
blank_no_digit b t = let l = blank_low b t in let h : b < 48 = omega arith in rw (lt-leb 48 b h)

-- so after a blank, or where a line begins, a number may stand
pub may_number : {ps : List Piece} → is_blank (last_byte (bytes_of ps)) ≡ true → EndsInNumber ps → ⊥
may_number {ps} t r =
    clash (ap (λ qs. is_digit (last_byte (bytes_of qs))) r.2 ∙ last_number r.0 r.1) (blank_no_digit (last_byte (bytes_of ps)) t)

-- the piece at a place
pub formed_at : {ps : List Piece} → WellFormed ps → (front rest : List Piece) (p : Piece) → ps ≡ front ++ (p ∷ rest)
    → (ps ≡ front ++ (p ∷ []) ++ rest) × MayStand front p
formed_at formed front rest p e = (e ∙ sym (append_assoc front (p ∷ []) rest), formed front rest p e)

-- what may not stand right after a number
module _ {ps : List Piece} (formed : WellFormed ps) (front rest : List Piece) (l : ℤ) where
  pub not_numbers : (m : ℤ) → ps ≡ front ++ (number l ∷ number m ∷ rest) → ⊥
  not_numbers m e =
      let p = formed_at formed front (number m ∷ rest) (number l) e in
      formed (front ++ (number l ∷ [])) rest (number m) p.0 (front, l, refl)

  pub not_comment : (bs : List ℕ) → ps ≡ front ++ (number l ∷ comment bs ∷ rest) → ⊥
  not_comment bs e =
      let p = formed_at formed front (comment bs ∷ rest) (number l) e in
      let m = formed (front ++ (number l ∷ [])) rest (comment bs) p.0 in
      clash (sym (ap is_digit m.at_line) ∙ last_number front l) refl

-- the element at the end tells whether a clause is begun
pub unclosed_more : (ls : List ℤ) (l : ℤ) → unclosed (ls ++ (l ∷ [])) ≡ not (closes l)
unclosed_more ls l = ap (λ m. not (closes m)) (get_or_at ls l [] (pos 0) _ (omega (arith, length-append ls (l ∷ []))))

-- a run in pieces
run_bytes : (bs : List ℕ) → bytes_of (map blank bs) ≡ bs
run_bytes [] = refl
run_bytes (b ∷ bs) = ap (λ cs. b ∷ cs) (run_bytes bs)

run_numbers : (bs : List ℕ) → numbers_of (map blank bs) ≡ []
run_numbers [] = refl
run_numbers (b ∷ bs) = run_numbers bs

run_more : (front : List Piece) (b : ℕ) (bs : List ℕ) → front ++ map blank (b ∷ bs) ≡ front ++ (blank b ∷ []) ++ map blank bs
run_more front b bs = sym (append_assoc front (blank b ∷ []) (map blank bs))

run_formed : (front : List Piece) → WellFormed front → (bs : List ℕ) → BlankRun bs → WellFormed (front ++ map blank bs)
run_formed front g [] t = rw (append-nil front) g
run_formed front g (b ∷ bs) t = rw (run_more front b bs) (run_formed (front ++ (blank b ∷ [])) (formed_more (blank b) g t.0) bs t.1)

run_last : (front : List Piece) (b : ℕ) (bs : List ℕ) → BlankRun (b ∷ bs) → is_blank (last_byte (bytes_of (front ++ map blank (b ∷ bs)))) ≡ true
run_last front b [] t = ap is_blank (last_blank front b) ∙ t.0
run_last front b (c ∷ bs) t = rw (run_more front b (c ∷ bs)) (run_last (front ++ (blank b ∷ [])) c bs t.1)

-- numbers with runs between them, in pieces
abbrev pub spaced_pieces : List (ℤ × List ℕ) → List Piece
spaced_pieces ns = each ns (λ n. number n.0 ∷ map blank n.1)

pub spaced-bytes : (first : List ℕ) (ns : List (ℤ × List ℕ)) → bytes_of (map blank first ++ spaced_pieces ns) ≡ first ++ spaced_bytes ns
spaced-bytes first ns = each_append piece_bytes (map blank first) (spaced_pieces ns) ∙ (λ i. run_bytes first i ++ by ns i)
  where
    by : (ns : List (ℤ × List ℕ)) → bytes_of (spaced_pieces ns) ≡ spaced_bytes ns
    by [] = refl
    by (n ∷ ns) =
        ap (λ bs. signed n.0 ++ bs) (each_append piece_bytes (map blank n.1) (spaced_pieces ns) ∙ (λ i. run_bytes n.1 i ++ by ns i))
        ∙ sym (append_assoc (signed n.0) n.1 (spaced_bytes ns))

pub spaced-numbers : (first : List ℕ) (ns : List (ℤ × List ℕ)) → numbers_of (map blank first ++ spaced_pieces ns) ≡ spaced_numbers ns
spaced-numbers first ns = each_append piece_numbers (map blank first) (spaced_pieces ns) ∙ (λ i. run_numbers first i ++ by ns i)
  where
    by : (ns : List (ℤ × List ℕ)) → numbers_of (spaced_pieces ns) ≡ spaced_numbers ns
    by [] = refl
    by (n ∷ ns) =
        ap (λ ls. n.0 ∷ ls) (each_append piece_numbers (map blank n.1) (spaced_pieces ns) ∙ (λ i. run_numbers n.1 i ++ by ns i))

spaced_formed : (front : List Piece) → WellFormed front → is_blank (last_byte (bytes_of front)) ≡ true → (ns : List (ℤ × List ℕ)) → Spaced ns
    → WellFormed (front ++ spaced_pieces ns)
spaced_formed front g t [] s = rw (append-nil front) g
spaced_formed front g t (n ∷ []) s =
    rw (append-nil (map blank n.1), ← append_assoc front (number n.0 ∷ []) (map blank n.1))
    (run_formed (front ++ (number n.0 ∷ [])) (formed_more (number n.0) g (may_number t)) n.1 s)
spaced_formed front g t ((l, []) ∷ m ∷ ns) s = absurd (s.1 refl)
spaced_formed front g t ((l, b ∷ bs) ∷ m ∷ ns) s =
    let before = front ++ (number l ∷ []) in
    rw (← append_assoc front (number l ∷ []) (map blank (b ∷ bs) ++ spaced_pieces (m ∷ ns)), ← append_assoc before (map blank (b ∷ bs)) (spaced_pieces (m ∷ ns)))
    (spaced_formed (before ++ map blank (b ∷ bs)) (run_formed before (formed_more (number l) g (may_number t)) (b ∷ bs) s.0) (run_last before b bs s.0)
    (m ∷ ns) s.2)

pub laid_out : (first : List ℕ) (ns : List (ℤ × List ℕ)) → BlankRun first → Spaced ns → WellFormed (map blank first ++ spaced_pieces ns)
laid_out [] ns t s = spaced_formed [] formed_none refl ns s
laid_out (b ∷ bs) ns t s = spaced_formed (map blank (b ∷ bs)) (run_formed [] formed_none (b ∷ bs) t) (run_last [] b bs t) ns s

-- the narrow form is one of these
abbrev pub line_numbers : List ℤ → List (ℤ × List ℕ)
line_numbers ls = map (λ l. (l, behind l ∷ [])) ls

pub lines_bytes : (ls : List ℤ) → spaced_bytes (line_numbers ls) ≡ lines ls
unfolding lines
lines_bytes [] = refl
lines_bytes (l ∷ ls) =
    append_assoc (signed l) (behind l ∷ []) (spaced_bytes (line_numbers ls)) ∙ ap (λ bs. signed l ++ (behind l ∷ bs)) (lines_bytes ls)

pub lines_numbers : (ls : List ℤ) → spaced_numbers (line_numbers ls) ≡ ls
lines_numbers [] = refl
lines_numbers (l ∷ ls) = ap (λ ms. l ∷ ms) (lines_numbers ls)

behind_blank : (l : ℤ) → is_blank (behind l) ≡ true
behind_blank l = by (closes l)
  where
    by : (t : Bool) → is_blank (cond t line_feed space) ≡ true
    by true = refl
    by false = refl

pub lines_spaced : (ls : List ℤ) → Spaced (line_numbers ls)
lines_spaced [] = tt
lines_spaced (l ∷ []) = (behind_blank l, tt)
lines_spaced (l ∷ m ∷ ls) = ((behind_blank l, tt), (λ e. absurd (omega (arith, ap length e))), lines_spaced (m ∷ ls))

-- each number has a byte of its own, and each but the last one behind it
decimal_some : (x : ℕ) → 1 ≤ length (decimal x)
decimal_some = digit_by_digit (λ x ds. 1 ≤ length ds) (λ d h. omega arith) (λ x d z h go. omega (arith, length-append (decimal x) (digit d ∷ [])))

signed_some : (l : ℤ) → 1 ≤ length (signed l)
signed_some (pos n) = decimal_some n
signed_some (negsuc n) = omega arith

pub pieces_few : {ps : List Piece} → WellFormed ps → (front rest : List Piece) → ps ≡ front ++ rest → length (numbers_of rest) * 2 ≤ length (bytes_of rest) + 1
pieces_few formed front [] e = omega arith
pieces_few formed front (blank b ∷ rest) e =
    let go = pieces_few formed (front ++ (blank b ∷ [])) rest (formed_at formed front rest (blank b) e).0 in omega arith
pieces_few formed front (comment bs ∷ rest) e =
    let go = pieces_few formed (front ++ (comment bs ∷ [])) rest (formed_at formed front rest (comment bs) e).0 in
    omega (arith, length-append (comment_line bs) (bytes_of rest))
pieces_few formed front (number l ∷ []) e = omega (arith, signed_some l, length-append (signed l) [])
pieces_few formed front (number l ∷ blank b ∷ rest) e =
    let p = formed_at formed front (blank b ∷ rest) (number l) e in
    let go = pieces_few formed (front ++ (number l ∷ []) ++ (blank b ∷ [])) rest (formed_at formed (front ++ (number l ∷ [])) rest (blank b) p.0).0 in
    omega (arith, signed_some l, length-append (signed l) (b ∷ bytes_of rest))
pieces_few formed front (number l ∷ number m ∷ rest) e = absurd (not_numbers formed front rest l m e)
pieces_few formed front (number l ∷ comment bs ∷ rest) e = absurd (not_comment formed front rest l bs e)
