-- Open cells and open neighbours: which are in their lists, and that none is there twice. Assumes nothing.
use Prim.Native.Nat.{ℕ}
use native.Mathlib.Omega.{arith}
use mathlib.Core.Path.{◌≡◌, refl, sym, ◌∙◌, ap, subst}
use mathlib.Core.Bool.{Bool, true, false}
use Rattle.std.specs.Prelude.{Option, None, Some}
use mathlib.Core.List.Memᴰ
use mathlib.Core.List.{List, [], ◌∷◌, map}
use Rattle.answers.specs.Lists.{◌∈◌, ApartBy, Apart, up_to}
use Rattle.rules.specs.declared.Direction.{Direction}
use Rattle.rules.specs.declared.Direction.TheVariants.{North as north, East as east, South as south, West as west}
use Rattle.rules.specs.Board.{Board}
use Rattle.rules.proofs.Boards.{Laws}
use Rattle.encoder.specs.Variables.{Variable, directions, opens, Neighbour, if_open, if_there, neighbours, direction_number}
use Rattle.answers.proofs.Elements.{all_at, in_each, of_each, in_up_to, in_keep, of_keep, apart_each, apart_from, apart_keep, map_each}

pub of_opens : (b : Board) {x : ℕ} → x ∈ opens b → b.is_open x ≡ true
of_opens b m = (of_keep b.is_open (up_to b.size) m).1

pub in_opens : (b : Board) → Laws b → {x : ℕ} → b.is_open x ≡ true → x ∈ opens b
in_opens b law {x} h = in_keep b.is_open (in_up_to b.size x (law.open_stays x h)) h

pub apart_opens : (b : Board) → Apart (opens b)
apart_opens b = apart_keep b.is_open (up_to b.size) (apart_from 0 b.size)

pub in_directions : (d : Direction) → d ∈ directions
in_directions north = Memᴰ.head refl
in_directions east = Memᴰ.tail (Memᴰ.head refl)
in_directions south = Memᴰ.tail (Memᴰ.tail (Memᴰ.head refl))
in_directions west = Memᴰ.tail (Memᴰ.tail (Memᴰ.tail (Memᴰ.head refl)))

apart_directions : ApartBy direction_number directions
apart_directions = (
  λ y m. all_at (λ y. 0 ≡ direction_number y → ⊥) {xs = east ∷ south ∷ west ∷ []} (omega arith) m,
  (
    λ y m. all_at (λ y. 1 ≡ direction_number y → ⊥) {xs = south ∷ west ∷ []} (omega arith) m,
    (
      λ y m. all_at (λ y. 2 ≡ direction_number y → ⊥) {xs = west ∷ []} (omega arith) m,
      (λ y m. absurd (Memᴰ.not-nil m), tt),
    ),
  ),
)

-- y is an open neighbour of x
pub record Beside (b : Board) (x : ℕ) (y : Neighbour) : Type 0 where
  pub leads : b.next y.way x ≡ Some y.cell
  pub opened : b.is_open y.cell ≡ true

of_one : (b : Board) (x : ℕ) (d : Direction) (y : Neighbour) (o : Option ℕ) → b.next d x ≡ o → y ∈ if_there b d o → (y.way ≡ d) × Beside b x y
of_one b x d y None e m = absurd (Memᴰ.not-nil m)
of_one b x d y (Some z) e m = by (b.is_open z) refl m
  where
    by : (t : Bool) → b.is_open z ≡ t → y ∈ if_open t d z → (y.way ≡ d) × Beside b x y
    by true h m =
        let q : y ≡ record { way = d; cell = z } = Memᴰ.eq_of_singleton m in
        let w : y.way ≡ d = ap (λ (k : Neighbour). k.way) q in
        let c : y.cell ≡ z = ap (λ (k : Neighbour). k.cell) q in
        (w, record { leads = ap (λ k. b.next k x) w ∙ e ∙ ap Some (sym c); opened = ap b.is_open c ∙ h })
    by false h m = absurd (Memᴰ.not-nil m)

pub of_neighbours : (b : Board) (x : ℕ) (ds : List Direction) (y : Neighbour) → y ∈ neighbours b x ds → (y.way ∈ ds) × Beside b x y
of_neighbours b x ds y m =
    let r = of_each (λ d. if_there b d (b.next d x)) ds m in
    let k = of_one b x r.0 y (b.next r.0 x) refl r.2 in
    (subst (λ z. z ∈ ds) (sym k.0) r.1, k.1)

pub in_neighbours : (b : Board) (x : ℕ) (ds : List Direction) (y : Neighbour) → y.way ∈ ds → Beside b x y → y ∈ neighbours b x ds
in_neighbours b x ds y m k = in_each (λ d. if_there b d (b.next d x)) m (rw (k.leads, k.opened) (Memᴰ.head refl))

-- variables that tell the way are apart for the open neighbours of a cell
pub links_apart : (b : Board) (x : ℕ) (f : Neighbour → Variable) → ((y z : Neighbour) → f y ≡ f z → y.way ≡ z.way) → Apart (map f (neighbours b x directions))
links_apart b x f tell =
    rw (map_each f (λ d. if_there b d (b.next d x)) directions)
    (apart_each direction_number (λ d. map f (if_there b d (b.next d x))) directions apart_directions (λ d m. one d (b.next d x)) key)
  where
    one : (d : Direction) (o : Option ℕ) → Apart (map f (if_there b d o))
    one d None = tt
    one d (Some y) = by (b.is_open y)
      where
        by : (t : Bool) → Apart (map f (if_open t d y))
        by true = (λ v m. absurd (Memᴰ.not-nil m), tt)
        by false = tt

    key : (d e : Direction) (v : Variable) → v ∈ map f (if_there b d (b.next d x)) → v ∈ map f (if_there b e (b.next e x))
        → direction_number d ≡ direction_number e
    key d e v m n =
        let r = Memᴰ.of_map f (if_there b d (b.next d x)) m in
        let s = Memᴰ.of_map f (if_there b e (b.next e x)) n in
        let i = of_one b x d r.0 (b.next d x) refl r.1 in
        let k = of_one b x e s.0 (b.next e x) refl s.1 in
        ap direction_number (sym i.0 ∙ tell r.0 s.0 (r.2 ∙ sym s.2) ∙ k.0)
