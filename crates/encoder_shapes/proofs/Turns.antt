use Rattle.std.proofs.Common.{ℕ, suc, ◌+◌, ◌-◌, ◌<◌, ◌≡◌, refl, sym, ◌∙◌, ap, List, [], ◌∷◌, ◌++◌, length-append, arith}
use lib.IntN.{ℤ}
use lib.Seq.{sets}
use Rattle.answers.specs.declared.Writer.{Writer}
use Rattle.answers.specs.Lists.{from, up_to, each, joined}
use Rattle.answers.specs.Writer.{Puts}
use Rattle.answers.proofs.Elements.{all_left, all_right}
use Rattle.answers.proofs.Lent.{sets_append}
use Rattle.answers.proofs.Putting.{Putting, putting}
use Rattle.cnf.specs.Literals.{most_variables}
use Rattle.encoder.specs.Bounds.{NotBeyond}
use Rattle.encoder_shapes.specs.Limits.{WithinLimits, PartsWithinLimits}

abbrev pub rest : (ℕ → List ℤ) → ℕ → ℕ → List ℤ
rest f n k = each (from k (n - k)) f

pub limits_recast : {at : ℕ} {xs ys : List ℤ} → xs ≡ ys → WithinLimits at xs → WithinLimits at ys
limits_recast e w = rw (← e) w

-- a list in two parts
module _ (p others : List ℤ) where
  pub limits_left : {at : ℕ} → WithinLimits at (p ++ others) → WithinLimits at p
  limits_left l = let i = l.place in record { place = omega (arith, length-append p others); literals = all_left (NotBeyond most_variables) p others l.literals }

  module _ {now new : Writer ℤ} where
    pub limits_right : WithinLimits now.place (p ++ others) → Puts now p new → WithinLimits new.place others
    limits_right l w =
        let i = l.place in
        let j = w.place in record { place = omega (arith, length-append p others); literals = all_right (NotBeyond most_variables) p others l.literals }

    pub put_on : {old : Writer ℤ} {whole : List ℤ} → Putting old whole now (p ++ others) → Puts now p new → Putting old whole new others
    put_on s w =
        let i = s.place in
        let j = w.place in
        record {
          same_buffer = w.same_buffer ∙ s.same_buffer;
          place = omega (arith, length-append p others);
          holds = (λ t. sets (w.holds t) (w.place t) others) ∙ sym (sets_append now.buffer.now now.place p others) ∙ s.holds;
        }

-- before turn k of a loop that puts f k
pub record Turn (old now : Writer ℤ) (f : ℕ → List ℤ) (n k : ℕ) : Type 0 where
  pub put : Putting old (rest f n 0) now (rest f n k)
  pub limits : WithinLimits now.place (rest f n k)

-- after the last turn, where the search does not see it
pub turn_end : {old now : Writer ℤ} {f : ℕ → List ℤ} {n k : ℕ} → k ≡ n → Turn old now f n k → Puts old (each (up_to n) f) now
turn_end {n = n} {k} e w =
    let none : n - k ≡ 0 = omega arith in
    let all : n - 0 ≡ n = omega arith in
    let p = rw (none, all) at w.put in
    let i = p.place in record { same_buffer = p.same_buffer; place = omega arith; holds = p.holds }

pub each_from : {A : Type 0} (f : ℕ → List A) (n k : ℕ) → k < n → each (from k (n - k)) f ≡ f k ++ each (from (k + 1) (n - (k + 1))) f
each_from f n k h = let e : n - k ≡ suc (n - (k + 1)) = omega arith in rw e (ap (λ m. f k ++ each (from m (n - (k + 1))) f) (omega arith))

pub ruleset shapes = (putting, each_from, all_left, all_right)

-- of these parts, those on the right are still to be put
pub record Parts (old now : Writer ℤ) (all left : List (List ℤ)) : Type 0 where
  pub put : Putting old (joined all) now (joined left)
  pub limits : WithinLimits now.place (joined left)

pub parts_all : {w : Writer ℤ} {ps : List (List ℤ)} → PartsWithinLimits w.place ps → Parts w w ps ps
parts_all h = record { put = record { same_buffer = refl; place = refl; holds = refl }; limits = h.limits }

module _ {old now : Writer ℤ} {all left : List (List ℤ)} {p : List ℤ} (s : Parts old now all (p ∷ left)) where
  pub parts_needs : WithinLimits now.place p
  parts_needs = limits_left p (joined left) s.limits

  pub parts_on : {new : Writer ℤ} → Puts now p new → Parts old new all left
  parts_on w = record { put = put_on p (joined left) s.put w; limits = limits_right p (joined left) s.limits w }

pub parts_end : {old now : Writer ℤ} {all : List (List ℤ)} → Parts old now all [] → Puts old (joined all) now
parts_end s = let i = s.put.place in record { same_buffer = s.put.same_buffer; place = omega arith; holds = s.put.holds }
