-- Bytes that stand at a place, one after the other, and tokens that are read one after the other. Assumes nothing.
use Prim.Native.Nat.{ℕ, suc, ◌+◌, ◌<◌}
use native.Mathlib.Omega.{arith}
use borrow.Author.Tests.{lt-ltb, eq-eqb, eqb-true}
use lib.Dec.{eqb, ltb}
use lib.ListN.{length, get_or, drop, length-append, length-drop}
use lib.Seq.{drop-cons, drop-drop, drop-append_seam}
use mathlib.Core.Path.{◌≡◌, refl, sym, ◌∙◌, ap, subst}
use mathlib.Core.Bool.{true}
use mathlib.Core.List.{List, [], ◌∷◌, ◌++◌, append_assoc}
use Rattle.answers.proofs.Bools.{and_both}
use Rattle.dimacs.specs.Tokens.{TokenAt, stands, refused, and_then, has_byte}
use Rattle.dimacs.proofs.Tokens.{has_inside}
use Rattle.dimacs_theory.specs.Tokens.{Has}

pub no_token : {A B : Type 0} {p c : ℕ} {x : A} → ◌≡◌ {A = TokenAt A} (refused p) (stands x c) → B
no_token e = let z : ◌≡◌ {A = ℕ} 0 1 = cc in absurd (omega arith)

pub then_found : {A B : Type 0} (o : TokenAt A) (go : A → ℕ → TokenAt B) {y : B} {c : ℕ} → and_then o go ≡ stands y c
    → (x : A) × (b : ℕ) × (o ≡ stands x b) × (go x b ≡ stands y c)
then_found (stands x b) go r = (x, b, refl, r)
then_found (refused p) go r = no_token r

-- the first of them, and the others
pub record First (text : List ℕ) (a b : ℕ) (bs : List ℕ) (c : ℕ) : Type 0 where
  pub inside : a < length text
  pub byte : get_or text a 0 ≡ b
  pub rest : Has text (suc a) bs c

module _ {text : List ℕ} where
  pub has_nothing : (a : ℕ) → Has text a [] a
  has_nothing a = record { is = refl; place = omega arith }

  pub has_then : {a b c : ℕ} {xs ys : List ℕ} → Has text a xs b → Has text b ys c → Has text a (xs ++ ys) c
  has_then {c = c} {xs = xs} {ys = ys} p q =
      record {
        is = p.is ∙ ap (λ bs. xs ++ bs) q.is ∙ sym (append_assoc xs ys (drop c text));
        place = omega (arith, length-append xs ys, p.place, q.place);
      }

  pub has_as : {a b : ℕ} {xs ys : List ℕ} → xs ≡ ys → Has text a xs b → Has text a ys b
  has_as {a} {b} e p = subst (λ bs. Has text a bs b) e p

  pub has_split : {a c : ℕ} (xs : List ℕ) {ys : List ℕ} → Has text a (xs ++ ys) c → (b : ℕ) × Has text a xs b × Has text b ys c
  has_split {a} {c} xs {ys} p =
      let whole : drop a text ≡ xs ++ (ys ++ drop c text) = p.is ∙ append_assoc xs ys (drop c text) in
      let rest : drop (a + length xs) text ≡ ys ++ drop c text = sym (drop-drop (length xs) a text) ∙ ap (drop (length xs)) whole
      ∙ drop-append_seam xs (ys ++ drop c text) in (
        a + length xs,
        record { is = whole ∙ ap (λ bs. xs ++ bs) (sym rest); place = refl },
        record { is = rest; place = omega (arith, length-append xs ys, p.place) },
      )

  pub has-byte : {a b : ℕ} → has_byte text b a ≡ true → Has text a (b ∷ []) (suc a)
  has-byte {a} {b} t =
      let m = eqb-true (get_or text a 0) b (and_both (ltb a (length text)) (eqb (get_or text a 0) b) t).1 in
      record { is = drop-cons text a 0 (has_inside text a b t) ∙ ap (λ x. x ∷ drop (suc a) text) m; place = omega arith }

  pub has_first : {a b c : ℕ} {bs : List ℕ} → Has text a (b ∷ bs) c → First text a b bs c
  has_first {a} {b} {c} p =
      let h : a < length text = omega (arith, length-drop a text, ap length p.is) in
      let e = sym (drop-cons text a 0 h) ∙ p.is in
      record { inside = h; byte = ap (λ t. get_or t 0 0) e; rest = record { is = ap (drop 1) e; place = omega (arith, p.place) } }

  pub first_has : {a b c : ℕ} {bs : List ℕ} → First text a b bs c → has_byte text b a ≡ true
  first_has {a} {b} f = rw (lt-ltb a (length text) f.inside) (eq-eqb (get_or text a 0) b f.byte)
