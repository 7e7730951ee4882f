-- What a call takes: what its rows say of the list and the trail, and that another trail, legal and explained, with the same list is taken too. Assumes
-- nothing.
use Prim.Native.Nat.{ℕ, ◌-◌, ◌≤◌, ◌<◌}
use native.Mathlib.Omega.{arith}
use lib.Dec.{eqb, ltb}
use lib.IntN.{ℤ, pos}
use lib.ListN.{length, replicate, length-replicate}
use borrow.Author.Tests.{eqb-true, ltb-false, eq-eqb, le-ltb, not-false}
use mathlib.Core.Path.{◌≡◌, refl, sym, ap, subst}
use mathlib.Core.Bool.{false, not}
use Rattle.std.specs.Prelude.{Option, None, Some}
use Rattle.answers.proofs.Options.{some-none}
use mathlib.Core.List.{List}
use Rattle.answers.specs.First.{first_where, or_else}
use Rattle.answers.specs.Lists.{All}
use Rattle.answers.specs.Outcome.{cause}
use Rattle.answers.proofs.Bools.{or_neither}
use Rattle.answers.proofs.First.{first_none, none_first, not_found}
use Rattle.answers.proofs.Rows.{Clear, no-cause}
use Rattle.cnf.specs.Literals.{most_variables, too_many_variables, beyond_at, unclosed, wrong_list}
use Rattle.cnf.specs.Clauses.{split}
use Rattle.search.specs.Trail.{Entry, Trail, Slices, HasLength, image_by, image, trail_of}
use Rattle.search.specs.Reasons.{wrong_number_at, wrong_numbers}
use Rattle.search.specs.Call.{Search, wrong_lengths, wrong_entry_at, Call, Searching, Following, search_rows, rows_of, begins, IsTaken, on_slices}
use Rattle.search.proofs.Trails.{length-laid, read_image}
use Rattle.search_theory.specs.Legal.{Proper, Legal}
use Rattle.search_theory.specs.Reasons.{AllExplained}
use Rattle.search_theory.proofs.Lists.{proper_clauses}
use Rattle.search_theory.proofs.Legal.{read_legal, legal_read}
use Rattle.search_theory.proofs.Full.{legal_length}
use Rattle.search_theory.proofs.Reasons.{read_explained, explained_read}

neither : (o p : Option ℕ) → or_else o p ≡ None → (o ≡ None) × (p ≡ None)
neither None p h = (refl, h)
neither (Some i) p h = absurd (some-none i h)

-- the image of a legal trail has V elements
length-image : {A : Type 0} (f : Entry → A) (d : A) (v : ℕ) (t : Trail) → Legal v t → length (image_by f d v t) ≡ v
length-image f d v t l =
    let h = legal_length v t l in
    let n = length-replicate (v - length t) d in
    omega (arith, length-laid f t (replicate (v - length t) d))

pub image_long : (v : ℕ) (t : Trail) → Legal v t → HasLength v (image v t)
image_long v t l =
    record {
      trail = length-image (λ e. e.literal) (pos 0) v t l;
      marks = length-image (λ e. e.mark) 0 v t l;
      numbers = length-image (λ e. e.number) 0 v t l;
    }

-- 17 has no cause
pub record Sized (v : ℕ) (s : Slices) (used : ℕ) : Type 0 where
  pub few : v ≤ most_variables
  pub trail : length s.trail ≡ v
  pub marks : length s.marks ≡ v
  pub inside : used ≤ v

module _ {v : ℕ} (s : Slices) {used : ℕ} where
  pub sized : wrong_lengths v s used ≡ false → Sized v s used
  sized e =
      let h = or_neither _ (ltb v used) e in
      let k = or_neither _ (not (eqb (length s.marks) v)) h.0 in
      let l = or_neither (too_many_variables v) (not (eqb (length s.trail) v)) k.0 in
      record {
        few = ltb-false most_variables v l.0;
        trail = eqb-true (length s.trail) v (not-false _ l.1);
        marks = eqb-true (length s.marks) v (not-false _ k.1);
        inside = ltb-false v used h.1;
      }

  pub right_lengths : Sized v s used → wrong_lengths v s used ≡ false
  right_lengths z =
      let trail = eq-eqb (length s.trail) v z.trail in
      let marks = eq-eqb (length s.marks) v z.marks in
      rw (le-ltb most_variables v z.few, trail, marks, le-ltb v used z.inside)

-- 16 has no cause
pub right_list : (v : ℕ) (ls : List ℤ) → wrong_list v ls ≡ None → ((i : ℕ) → i < length ls → beyond_at v ls i ≡ false) × (unclosed ls ≡ false)
right_list v ls h =
    let n = neither (first_where (beyond_at v ls) (length ls)) _ h in
    (first_none (beyond_at v ls) (length ls) n.0, not_found (unclosed ls) (length ls) n.1)

-- 22 has no cause
pub right_numbers : {v : ℕ} (ls : List ℤ) → unclosed ls ≡ false → (s : Slices) (used : ℕ) → length s.numbers ≡ v → AllExplained ls (trail_of s used)
    → wrong_numbers v ls s used ≡ None
right_numbers {v} ls closed s used long x = rw (eq-eqb (length s.numbers) v long) (none_first _ used (explained_read ls closed s used x))

-- the search's rows are the first of either call
first_rows : (x : Call) (s : Search) → Clear (rows_of s x) → Clear (search_rows s)
first_rows Searching s c = c
first_rows Following s c = let (c17, (c16, (c18, (c22, c20)))) = c in (c17, (c16, (c18, (c22, tt))))

module _ {x : Call} {s : Search} (ok : IsTaken x s) where
  rows : Clear (search_rows s)
  rows = first_rows x s ok.clear

  pub taken_search : IsTaken Searching s
  taken_search = record { clear = rows }

  pub taken_sized : Sized s.variables s.slices s.used
  taken_sized = sized s.slices (no-cause (wrong_lengths s.variables s.slices s.used) rows.0)

  pub list_right : ((i : ℕ) → i < length s.list → beyond_at s.variables s.list i ≡ false) × (unclosed s.list ≡ false)
  list_right = right_list s.variables s.list rows.1.0

  pub taken_closed : unclosed s.list ≡ false
  taken_closed = list_right.1

  pub taken_proper : All (All (Proper s.variables)) (split s.list)
  taken_proper = proper_clauses s.variables s.list list_right.0

  pub taken_legal : Legal s.variables (begins s)
  taken_legal = read_legal s.variables s.slices s.used (first_none (wrong_entry_at s.variables s.slices) s.used rows.1.1.0)

  numbers_right : (length s.slices.numbers ≡ s.variables) × ((i : ℕ) → i < s.used → wrong_number_at s.list s.slices i ≡ false)
  numbers_right =
      let same = eqb (length s.slices.numbers) s.variables in
      let n = neither (cause (not same)) _ rows.1.1.1.0 in
      (eqb-true _ _ (not-false same (no-cause (not same) n.0)), first_none (wrong_number_at s.list s.slices) s.used n.1)

  pub taken_long : HasLength s.variables s.slices
  taken_long = record { trail = taken_sized.trail; marks = taken_sized.marks; numbers = numbers_right.0 }

  pub taken_explained : AllExplained s.list (begins s)
  taken_explained = read_explained s.list taken_closed s.slices s.used numbers_right.1

  -- the same list with another trail, legal and explained, in slices of V elements
  pub taken_other : (r : Slices) (n : ℕ) → HasLength s.variables r → n ≤ s.variables → Legal s.variables (trail_of r n)
      → AllExplained s.list (trail_of r n) → IsTaken Searching (on_slices s r n)
  taken_other r n long h l x =
      let v = s.variables in
      let lengths = right_lengths r (record { few = taken_sized.few; trail = long.trail; marks = long.marks; inside = h }) in
      let numbers = right_numbers s.list taken_closed r n long.numbers x in
      record { clear = (ap cause lengths, (rows.1.0, (none_first _ n (legal_read v r n l), (numbers, tt)))) }

  -- in its image
  pub taken_image : (t : Trail) → Legal s.variables t → AllExplained s.list t → IsTaken Searching (on_slices s (image s.variables t) (length t))
  taken_image t l x =
      let v = s.variables in
      let read = sym (read_image v t) in
      taken_other (image v t) (length t) (image_long v t l) (legal_length v t l) (subst (Legal v) read l) (subst (AllExplained s.list) read x)
