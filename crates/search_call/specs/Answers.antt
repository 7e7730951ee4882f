-- What the answers of the search tell, in document 01's numbers.
use Rattle.std.specs.Prelude.{Result, Ok, Err}
use Rattle.answers.specs.declared.Outcome.{Outcome}
use Rattle.answers.specs.Outcome.{refusal, answer}
use Rattle.search.specs.Run as meaning
use Rattle.search.specs.Run.{ending_number}
use Rattle.search_call.specs.declared.Ending.{Ending}
use Rattle.search_call.specs.declared.Ending.TheVariants.{Found, None, Halted}
use Rattle.search_call.specs.declared.End.{End}
use Rattle.search_call.specs.declared.SearchRefusal.{SearchRefusal}
use Rattle.search_call.specs.declared.SearchRefusal.TheVariants.{Lengths, List, Entry, Number, Untrue}

abbrev pub ending_of : Ending → meaning.Ending
ending_of Found = meaning.Found
ending_of None = meaning.None
ending_of Halted = meaning.Halted

-- found 1, none 2, halted 3, with the steps that this call made and the used count
abbrev pub end_outcome : End → Outcome
end_outcome e = answer (ending_number (ending_of e.ending)) e.steps e.used

-- 17, 16, 18, 22, and 20 of `next`
abbrev pub search_refusal_outcome : SearchRefusal → Outcome
search_refusal_outcome Lengths = refusal 17 0
search_refusal_outcome (List i) = refusal 16 i
search_refusal_outcome (Entry i) = refusal 18 i
search_refusal_outcome (Number i) = refusal 22 i
search_refusal_outcome Untrue = refusal 20 0

abbrev pub answer_outcome : Result End SearchRefusal → Outcome
answer_outcome (Ok e) = end_outcome e
answer_outcome (Err r) = search_refusal_outcome r

-- where they are accepted the call goes on
abbrev pub checked_tells : Result Unit SearchRefusal → Outcome → Outcome
checked_tells (Ok u) t = t
checked_tells (Err r) t = search_refusal_outcome r
