-- What a step asks, and what it hands out.
use Rattle.std.specs.Prelude.{ℕ, ℤ, length, ◌≡◌, false, List, ◌∷◌}
use Rattle.cnf.specs.Literals.{unclosed}
use Rattle.search.specs.Trail.{Entry, Trail, Slices, slices}
use Rattle.search.specs.Step.{Next, Moved, AnsweredFound, AnsweredNone}
use Rattle.search_theory.specs.Legal.{Legal}
use Rattle.search_scan.specs.PackedValues.{Within}
use Rattle.search_trail.specs.Packed.{running_trail, with_trail}
use Rattle.search_step.specs.declared.Stepped.{Stepped}
use Rattle.search_step.specs.declared.Stepped.TheVariants.{MovedTo, Found, None}

-- a list that row 16 does not refuse: no literal beyond V, and its last clause is closed
pub record ListFits (v : ℕ) (ls : List ℤ) : Type 0 where
  pub within : Within v ls
  pub closed : unclosed ls ≡ false

-- a trail that an entry may be appended to
abbrev pub Allows : Slices → ℕ → Entry → Type 0
Allows s used e = Legal (length s.marks) (e ∷ running_trail s used)

-- what may come after a trail beside undoing: an entry more
abbrev pub appends : Entry → Trail → Next
appends e t = Moved (e ∷ t)

-- all that a step hands out: its answer, and what it leaves in the lent slices
pub record StepHanded : Type 0 where
  pub answer : Stepped
  pub slices : Slices

abbrev pub step_handed : Stepped → List ℤ → List ℕ → List ℕ → StepHanded
step_handed answer trail marks numbers = record { answer = answer; slices = slices trail marks numbers }

-- it answers the used count of the trail that it moved to, or "found" or "none"
abbrev pub answer_of : Next → Stepped
answer_of (Moved u) = MovedTo (length u)
answer_of AnsweredFound = Found
answer_of AnsweredNone = None

-- it leaves the trail that it moved to; answering changes nothing
abbrev pub leaves : Next → Slices → Slices
leaves (Moved u) s = with_trail u s
leaves AnsweredFound s = s
leaves AnsweredNone s = s

-- what is handed out where `next` says what comes after the trail in the buffers
abbrev pub hands_next : (Trail → Next) → Slices → ℕ → StepHanded
hands_next next s used =
    let x : Next = next (running_trail s used) in
    record { answer = answer_of x; slices = leaves x s }
