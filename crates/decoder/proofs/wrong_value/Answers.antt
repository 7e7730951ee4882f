-- `decoder::wrong_value` meets its contract. Assumes nothing.
use Prim.Native.Nat.{ℕ, ◌<◌}
use native.Mathlib.Omega.{arith}
use borrow.Author.Rules.{rules}
use borrow.Author.Tests.{tests}
use lib.Dec.{ltb}
use lib.ListN.{length, get_or}
use mathlib.Core.Path.{◌≡◌, sym}
use mathlib.Core.Bool.{Bool, true, false}
use mathlib.Core.List.{List}
use Rattle.std.specs.Prelude.{Option, None, Some, MatchOption}
use Rattle.std.specs.List.{AllWithin, HoldsAt}
use Rattle.std.proofs.lemmas.Iterator.{IsFirst-from_position, YieldsList-from_slice}
use Rattle.answers.specs.First.{first_where}
use Rattle.answers.proofs.First.{some_first, none_first}
use Rattle.decoder.proofs.wrong_value.Goals as goal

-- what an iterator's `position` gives is the first
first_found : (p : ℕ → Bool) (xs : List ℕ) (r : Option ℕ)
    → MatchOption r (AllWithin (λ x. p x ≡ false) xs 0 (length xs))
    (λ i. (i < length xs) × HoldsAt (λ x. p x ≡ true) xs i × AllWithin (λ x. p x ≡ false) xs 0 i)
    → r ≡ first_where (λ i. p (get_or xs i 0)) (length xs)
first_found p xs None h = sym (none_first _ _ (λ k l. h k 0 (omega arith) l))
first_found p xs (Some i) (b, h, f) = sym (some_first _ _ (record { below = b; holds = h 0; first = λ k l. f k 0 (omega arith) l }))

pub returns : goal.returns
returns c =
    first_found (λ x. ltb 1 x) c.args.values.now c.position.result
    (IsFirst-from_position _ _ _ (λ x. ltb 1 x ≡ true) (λ x. ltb 1 x ≡ false) c.position.ensures.ran (YieldsList-from_slice c.args.values.now cc)
    (λ x q k. search (rules, tests)) (λ x q k. search (rules, tests)))
