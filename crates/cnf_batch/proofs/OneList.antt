-- One assignment, as a clause list is read element by element. Assumes nothing.
use lib.IntN.{ℤ}
use mathlib.Core.Path.{◌≡◌, refl, sym, ◌∙◌, ap, ap₂}
use mathlib.Core.Bool.{Bool, true, false, not, ◌&&◌, ◌||◌, and-true, and_assoc, or-false, or_assoc}
use mathlib.Core.List.{List, [], ◌∷◌}
use Rattle.answers.proofs.Bools.{clash}
use Rattle.cnf.specs.Literals.{closes, unclosed}
use Rattle.cnf.specs.Clauses.{split_step, split, value}
use Rattle.cnf.proofs.Lists.{closed_rest}
use Rattle.cnf_batch.specs.Batch.{has_true, all_have_true, satisfies}

-- each of the clauses left has a true literal; `had` says that the first of them had one in the part that was read
unfoldable rest_have_true : List Bool → Bool → List (List ℤ) → Bool
rest_have_true a had [] = true
rest_have_true a had (c ∷ cs) = (had || has_true a c) && all_have_true a cs

rest_fresh : (a : List Bool) (cs : List (List ℤ)) → rest_have_true a false cs ≡ all_have_true a cs
unfolding rest_have_true
rest_fresh a [] = refl
rest_fresh a (c ∷ cs) = refl

-- a literal is never the end of a list that ends in 0: it belongs to the first clause of what is left
rest_literal : (a : List Bool) (had : Bool) (l : ℤ) (left : List ℤ) → closes l ≡ false → unclosed (l ∷ left) ≡ false
    → rest_have_true a (had || value a l) (split left) ≡ rest_have_true a had (split_step false l (split left))
unfolding rest_have_true split
rest_literal a had l [] e h = clash (ap not e) h
rest_literal a had l (m ∷ left) e h = by (closes m) (split left)
  where
    more : (c : List ℤ) (cs : List (List ℤ))
        → ((had || value a l) || has_true a c) && all_have_true a cs ≡ (had || (value a l || has_true a c)) && all_have_true a cs
    more c cs = ap (λ (t : Bool). t && all_have_true a cs) (or_assoc had (value a l) (has_true a c))

    by : (t : Bool) (cs : List (List ℤ))
        → rest_have_true a (had || value a l) (split_step t m cs) ≡ rest_have_true a had (split_step false l (split_step t m cs))
    by true cs = more [] cs
    by false [] = more (m ∷ []) []
    by false (c ∷ cs) = more (m ∷ c) cs

-- when a part of a clause list is left: the assignment satisfies the whole exactly if it satisfies the clauses read and those left
pub record ListRead (a : List Bool) (ls : List ℤ) (satisfied had : Bool) (left : List ℤ) : Type 0 where
  closed : unclosed left ≡ false
  rest : satisfied && rest_have_true a had (split left) ≡ satisfies a ls

pub list_as : {a : List Bool} {ls left : List ℤ} {s t h k : Bool} → t ≡ s → k ≡ h → ListRead a ls s h left → ListRead a ls t k left
list_as {a} {left = left} p q r =
    record { closed = r.closed; rest = ap₂ (λ (t k : Bool). t && rest_have_true a k (split left)) p q ∙ r.rest }

pub list_start : (a : List Bool) (ls : List ℤ) → unclosed ls ≡ false → ListRead a ls true false ls
list_start a ls h = record { closed = h; rest = rest_fresh a (split ls) }

pub list_end : {a : List Bool} {ls : List ℤ} {satisfied had : Bool} → ListRead a ls satisfied had [] → satisfied ≡ satisfies a ls
unfolding rest_have_true split
list_end {satisfied = satisfied} r = sym (and-true satisfied) ∙ r.rest

module _ {a : List Bool} {ls : List ℤ} {satisfied had : Bool} {l : ℤ} {left : List ℤ} (r : ListRead a ls satisfied had (l ∷ left)) where
  stepped : {t : Bool} → closes l ≡ t → satisfied && rest_have_true a had (split_step t l (split left)) ≡ satisfies a ls
  unfolding split
  stepped e = ap (λ (t : Bool). satisfied && rest_have_true a had (split_step t l (split left))) (sym e) ∙ r.rest

  pub list_close : closes l ≡ true → ListRead a ls (satisfied && had) false left
  unfolding rest_have_true
  list_close e = record {
    closed = closed_rest l left r.closed;
    rest =
        ap (λ (t : Bool). (satisfied && had) && t) (rest_fresh a (split left)) ∙ and_assoc satisfied had (all_have_true a (split left))
        ∙ ap (λ (t : Bool). satisfied && (t && all_have_true a (split left))) (sym (or-false had)) ∙ stepped e;
  }

  pub list_literal : closes l ≡ false → ListRead a ls satisfied (had || value a l) left
  list_literal e = record {
    closed = closed_rest l left r.closed;
    rest = ap (λ (t : Bool). satisfied && t) (rest_literal a had l left e r.closed) ∙ stepped e;
  }
