-- Document 02's request E2 holds. What it says stands in specs/RequestE2.antt; what is cited here is proved in search_theory. Assumes nothing.
use Prim.Native.Nat.{ℕ, zero, suc, ◌+◌, ◌≤◌}
use native.Mathlib.Omega.{arith}
use mathlib.Core.Path.{◌≡◌, refl, sym, ◌∙◌, ap, subst}
use Rattle.search.specs.Run.{Halted, following}
use Rattle.search.specs.Call.{Search, Handed, Call, Searching, Following, IsTaken, hands, by_search, by_next, Says, steps, resumed}
use Rattle.search_theory.specs.Budgets.{goes_on, in_all}
use Rattle.search_theory.proofs.Handed.{taken_answered, said}
use Rattle.search_theory.proofs.Theorems.{halted_steps}
use Rattle.search_theory.proofs.Budgets as budgets
use Rattle.demands.specs.RequestE2.{RequestE2}

-- after a step, `next` goes on by the search
after-step : (n : ℕ) → 1 ≤ n → goes_on Following n ≡ Searching
after-step zero h = absurd (omega arith)
after-step (suc n) h = refl

-- no steps made before
none_before : (h on : Handed) → steps h ≡ 0 → on.outcome.number ≡ 0 → in_all h on ≡ on
none_before h on e k =
    let sum : steps h + steps on ≡ steps on = omega arith in
    (λ j. record { outcome = record { number = sym k j; first = on.outcome.first; second = sum j; third = on.outcome.third }; slices = on.slices })

module _ (c : Search) (ok : IsTaken Following c) (a : ℕ) (says : Says (by_next c a) Halted) where
  whole : steps (by_next c a) ≡ a
  whole = (halted_steps ok a says).0

  -- the call that goes on after `next`
  gone_on : {x : Call} → goes_on Following (steps (by_next c a)) ≡ x
      → IsTaken x (resumed c (by_next c a)) × ((b : ℕ) → by_next c (a + b) ≡ in_all (by_next c a) (hands x (resumed c (by_next c a)) b))
  gone_on e =
      subst (λ x. IsTaken x (resumed c (by_next c a)) × ((b : ℕ) → by_next c (a + b) ≡ in_all (by_next c a) (hands x (resumed c (by_next c a)) b))) e
      (budgets.goes_on_lem ok a says, budgets.adds_up ok a says)

  by-search : 1 ≤ a
      → IsTaken Searching (resumed c (by_next c a)) × ((b : ℕ) → by_next c (a + b) ≡ in_all (by_next c a) (by_search (resumed c (by_next c a)) b))
  by-search h = gone_on (after-step (steps (by_next c a)) (let w = whole in omega arith))

-- with budget 0 `next` is halted, and called again
called_again : (c : Search) → IsTaken Following c → IsTaken Following (resumed c (by_next c 0)) × ((b : ℕ) → by_next (resumed c (by_next c 0)) b ≡ by_next c b)
unfolding following
called_again c ok = (on.0, same)
  where
    says : Says (by_next c 0) Halted
    says = said ok 0 Halted refl

    on : IsTaken Following (resumed c (by_next c 0)) × ((b : ℕ) → by_next c (0 + b) ≡ in_all (by_next c 0) (by_next (resumed c (by_next c 0)) b))
    on = gone_on c ok 0 says (ap (goes_on Following) (whole c ok 0 says))

    same : (b : ℕ) → by_next (resumed c (by_next c 0)) b ≡ by_next c b
    same b =
        let sum : 0 + b ≡ b = omega arith in
        let answered = (taken_answered Following (resumed c (by_next c 0)) b).0 on.0 in
        sym (none_before (by_next c 0) (by_next (resumed c (by_next c 0)) b) (whole c ok 0 says) answered) ∙ sym (on.1 b) ∙ ap (by_next c) sum

pub request_e2 : RequestE2
request_e2 =
    record {
      goes_on = λ c ok. budgets.goes_on_lem ok;
      adds_up = λ c ok. budgets.adds_up ok;
      unaltered = λ c ok. budgets.unaltered ok;
      next_goes_on = λ c ok a h says. (by-search c ok a says h).0;
      next_adds_up = λ c ok a h says. (by-search c ok a says h).1;
      next_unaltered = λ c ok. budgets.unaltered ok;
      next_called_again = called_again;
      in-parts = λ c ok. budgets.in-parts ok;
      next_in_parts = λ c ok. budgets.in-parts ok;
    }
