-- Laws of putting elements into a writer, one part after the other. Assumes nothing.
use Rattle.std.proofs.Common.{◌+◌, ◌≡◌, sym, ◌∙◌, List, ◌++◌, length, arith, length-append}
use Rattle.std.proofs.lemmas.Grind.{common_steps}
use Rattle.std.proofs.lemmas.List.{take_more}
use lib.Seq.{sets}
use Rattle.answers.specs.declared.Writer.{Writer}
use Rattle.answers.specs.Writer.{Puts}
use Rattle.answers.proofs.Lent.{sets_append}

-- with these the check finds by itself what several calls put: a function names them in its `tactic` attribute
pub ruleset putting = (common_steps, take_more, sets_append)

-- of the whole, this is still to be put: what a loop keeps
pub record Putting {A : Type 0} (old : Writer A) (whole : List A) (now : Writer A) (rest : List A) : Type 0 where
  pub same_buffer : now.buffer.ghost_name ≡ old.buffer.ghost_name
  pub place : now.place + length rest ≡ old.place + length whole
  pub holds : sets now.buffer.now now.place rest ≡ sets old.buffer.now old.place whole

-- one after the other, where calls are too many for the search
pub puts_after : {A : Type 0} {w₀ w₁ w₂ : Writer A} {xs ys : List A} → Puts w₀ xs w₁ → Puts w₁ ys w₂ → Puts w₀ (xs ++ ys) w₂
puts_after {w₀ = w₀} {xs = xs} {ys = ys} p q =
    record {
      same_buffer = q.same_buffer ∙ p.same_buffer;
      place = omega (arith, p.place, q.place, length-append xs ys);
      holds = q.holds ∙ (λ t. sets (p.holds t) (p.place t) ys) ∙ sym (sets_append w₀.buffer.now w₀.place xs ys);
    }

pub puts_recast : {A : Type 0} {old new : Writer A} {xs ys : List A} → xs ≡ ys → Puts old xs new → Puts old ys new
puts_recast e p = rw (← e) p
