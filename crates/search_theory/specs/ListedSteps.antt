-- Document 01's "One step does the first that applies", with E9's order of forced literals and E10's numbers, as relations: the listed steps, what they lead
-- to, and what a call comes to by them.
use Rattle.std.specs.Prelude.{ℕ, suc, ◌<◌, ℤ, pos, neg_ℤ, drop, ◌≡◌, List, ◌∷◌}
use Rattle.answers.specs.First.{FirstIn, NoneIn}
use Rattle.search.specs.Trail.{Entry, entry, Trail, variable_value}
use Rattle.search.specs.Step.{negated, Next, Moved, AnsweredFound, AnsweredNone}
use Rattle.search.specs.Run.{Found, None, Halted, Done, ends, one_more}
use Rattle.search.specs.Call.{Search, Handed, Call, Searching, Following, begins, hands_done}
use Rattle.search_theory.specs.Choices.{FailedClause, NoneFailed, ForcingClause, NoneForcing, LowestUnassigned, NoneUnassigned}

abbrev pub MarkedOne : Entry → Type 0
MarkedOne e = e.mark ≡ 1

-- what undoing leads to; a trail has its latest entry first
pub data Undoes (t : Trail) : Next → Type 0 where
  -- undo back to the last entry marked 1, negate it, mark it 0; by E10 its number is 0
  negates : {k : ℕ} {e : Entry} → FirstIn MarkedOne t k e → Undoes t (Moved (negated e ∷ drop (suc k) t))
  -- if no mark is 1, answer "none"
  none_marked : NoneIn MarkedOne t → Undoes t AnsweredNone

module _ (v : ℕ) (ls : List ℤ) where
  -- "One step does the first that applies": at a trail t it leads to another trail or to an answer
  pub data ListedStep (t : Trail) : Next → Type 0 where
    -- a failed clause, that is, the first clause in list order whose literals are all false: undo back to the last entry marked 1, negate it, mark it 0;
    -- if no mark is 1, answer "none";
    undoes : {k : ℕ} {x : Next} → FailedClause (variable_value t) ls k → Undoes t x → ListedStep t x
    -- a clause without a true literal whose unassigned literals are all one literal (of several such clauses the one that E9 takes): append that, mark 0;
    -- by E10 with "that clause's number from 1"
    forces : {k : ℕ} {l : ℤ} → NoneFailed (variable_value t) ls → ForcingClause (variable_value t) ls k l → ListedStep t (Moved (entry l 0 (suc k) ∷ t))
    -- an unassigned variable: append the lowest, negated, mark 1; by E10 with the number 0
    chooses : {n : ℕ} → NoneFailed (variable_value t) ls → NoneForcing (variable_value t) ls → LowestUnassigned (variable_value t) v n
        → ListedStep t (Moved (entry (neg_ℤ (pos n)) 1 0 ∷ t))
    -- answer "found"
    finds : NoneFailed (variable_value t) ls → NoneForcing (variable_value t) ls → NoneUnassigned (variable_value t) v → ListedStep t AnsweredFound

  -- n listed steps lead from a trail to another
  pub data Leads : Trail → ℕ → Trail → Type 0 where
    stays : {t : Trail} → Leads t 0 t
    moves : {t u w : Trail} {n : ℕ} → ListedStep t (Moved u) → Leads u n w → Leads t (suc n) w

  -- what a search from t under a budget comes to: listed steps and then an answer, which is a step too, or the whole budget of steps without one
  pub data SearchComesTo (t : Trail) (budget : ℕ) : Done → Type 0 where
    found : {n : ℕ} {u : Trail} → Leads t n u → n < budget → ListedStep u AnsweredFound → SearchComesTo t budget (ends Found (suc n) u)
    none_left : {n : ℕ} {u : Trail} → Leads t n u → n < budget → ListedStep u AnsweredNone → SearchComesTo t budget (ends None (suc n) u)
    halted : {u : Trail} → Leads t budget u → SearchComesTo t budget (ends Halted budget u)

  -- what `next` comes to
  pub data NextComesTo (t : Trail) : ℕ → Done → Type 0 where
    -- "With budget 0 it is halted with nothing dropped"
    keeps : NextComesTo t 0 (ends Halted 0 t)
    -- "Where no mark is 1, .. the drop answers 'none' and changes no used entry."
    drops_last : {b : ℕ} → Undoes t AnsweredNone → NextComesTo t (suc b) (ends None 1 t)
    -- it "drops just that assignment as a failed clause would, and searches on under the same rules; dropping is a step."
    drops : {b : ℕ} {u : Trail} {d : Done} → Undoes t (Moved u) → SearchComesTo u b d → NextComesTo t (suc b) (one_more d)

abbrev pub ComesTo : Call → ℕ → List ℤ → Trail → ℕ → Done → Type 0
ComesTo Searching v ls t budget d = SearchComesTo v ls t budget d
ComesTo Following v ls t budget d = NextComesTo v ls t budget d

-- a call hands out what it comes to by the listed steps
pub record ByListedSteps (x : Call) (s : Search) (budget : ℕ) (h : Handed) : Type 0 where
  pub done : Done
  pub comes : ComesTo x s.variables s.list (begins s) budget done
  pub hands : h ≡ hands_done s.variables done
