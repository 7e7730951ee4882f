-- `read_full` meets its contract: each read goes behind what stands already.
use Rattle.std.proofs.Common.{◌≡◌, ℕ, ◌+◌, ◌-◌, ◌≤◌, List, ◌++◌, rules, arith, length, take, slice_range, sym, ap, ◌∙◌, subst, le_refl, drop_at, length-take-le}
use Rattle.std.proofs.lemmas.Slice.{take-put_mid_below}
use Rattle.std.specs.Io.KnownBytes.{Consumes}
use Rattle.std.proofs.KnownBytes.{Consumes-nil, Consumes-trans}
use borrow.Rule.Slice.PartMut.{put_mid, post_of}
use lib.Seq.{take-add, take-append-le}
use Rattle.program_io.proofs.read_full.Goals as goal

-- the first b bytes are the first a, which stay, and those from a to b
take_split : (a b : ℕ) (old new : List ℕ) → a ≤ b → take a new ≡ take a old → take a old ++ slice_range new a b ≡ take b new
take_split a b old new h front =
    let same : a + (b - a) ≡ b = omega arith in
    ap (λ l. l ++ slice_range new a b) (sym front) ∙ sym (take-add a (b - a) new) ∙ ap (λ n. take n new) same

slice_range-put_mid : (a k n : ℕ) (xs ys : List ℕ) → a ≤ length xs → n ≤ length ys → slice_range (put_mid a k xs ys) a (a + n) ≡ take n ys
slice_range-put_mid a k n xs ys within fits =
    let same : (a + n) - a ≡ n = omega arith in
    let after = post_of a k xs in
    ap (take ((a + n) - a)) (drop_at (take a xs) (ys ++ after) a (length-take-le a xs within)) ∙ ap (λ m. take m (ys ++ after)) same ∙ take-append-le n ys after fits

-- n more bytes, read behind the first a
put_more : (a n : ℕ) (xs ys : List ℕ) → a ≤ length xs → n ≤ length ys
    → take a xs ++ take n ys ≡ take (a + n) (put_mid a (length xs - a) xs ys)
put_more a n xs ys within fits =
    let room = length xs - a in
    ap (λ l. take a xs ++ l) (sym (slice_range-put_mid a room n xs ys within fits))
    ∙ take_split a (a + n) xs (put_mid a room xs ys) (omega arith) (take-put_mid_below _ _ _ _ _ (le_refl _) within)

pub loop-at-init : goal.loop-at-init
loop-at-init g c = (search rules, search rules, Consumes-nil _)

pub returns-then-n-eq0-clause-bytes : goal.returns-then-n-eq0-clause-bytes
returns-then-n-eq0-clause-bytes g c =
    let at = c.loop-at.at in
    let within = c.loop-at.invariant.1 in
    let all = put_more at c.in_ok-n.n c.loop-at.buf c.read.new.buf within c.in_ok-n.ensures.bound.0 in
    let same : at + c.in_ok-n.n ≡ at = omega (arith, c.if-n-eq0.true) in
    subst (Consumes _ _) (all ∙ ap (λ m. take m (put_mid at (length c.loop-at.buf - at) c.loop-at.buf c.read.new.buf)) same)
    (Consumes-trans _ _ _ _ _ c.loop-at.invariant.2 c.in_ok-n.ensures.bytes.0)

pub loop-at-preserved : goal.loop-at-preserved
loop-at-preserved g c =
    let within = c.loop-at.invariant.1 in
    let all = put_more c.loop-at.at c.in_ok-n.n c.loop-at.buf c.read.new.buf within c.in_ok-n.ensures.bound.0 in
    (search rules, search rules, subst (Consumes _ _) all (Consumes-trans _ _ _ _ _ c.loop-at.invariant.2 c.in_ok-n.ensures.bytes.0))

pub returns-clause-within : goal.returns-clause-within
returns-clause-within g c = let e = length-take-le c.loop-at.at c.loop-at.buf c.loop-at.invariant.1 in (c.loop-at.invariant.1, sym e)

pub returns-clause-bytes : goal.returns-clause-bytes
returns-clause-bytes g c = c.loop-at.invariant.2
