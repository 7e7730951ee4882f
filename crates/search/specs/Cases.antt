-- The starred lists of "Grids to try", and what is said of each; lists for the order of document 02's E9; and calls for the numbers of its E10.
use Rattle.std.specs.Prelude.{ℕ, ℤ, pos, negsuc, replicate, List, [], ◌∷◌}
use Rattle.answers.specs.declared.Outcome.{Outcome}
use Rattle.answers.specs.Outcome.{refusal, answer}
use Rattle.search.specs.Call.{Search, search_on, Handed, handed, by_search, Call, Searching, Following, hands}

-- V and a list, and what the search tells with budget 1,000,000: 1 found or 2 none, the steps, the used count
pub record Case : Type 0 where
  pub v : ℕ
  pub list : List ℤ
  pub says : Outcome

abbrev pub cases : List Case
cases =
    -- List `1 1 0`, V = 1: found at step 2.
    record { v = 1; list = pos 1 ∷ pos 1 ∷ pos 0 ∷ []; says = answer 1 2 1 } ∷
    -- `1 -1 0`, V = 1: found at step 2.
    record { v = 1; list = pos 1 ∷ negsuc 0 ∷ pos 0 ∷ []; says = answer 1 2 1 } ∷
    -- `0`, V = 0: none at step 1.
    record { v = 0; list = pos 0 ∷ []; says = answer 2 1 0 } ∷
    -- Empty list, V = 0: found at step 1.
    record { v = 0; list = []; says = answer 1 1 0 } ∷
    []

-- searched from the empty trail
abbrev hands_out : ℕ → List ℤ → Handed
hands_out v ls = by_search (search_on v ls (replicate v (pos 0)) (replicate v 0) (replicate v 0) 0) 1000000

abbrev pub from_empty : Case → Outcome
from_empty c = (hands_out c.v c.list).outcome

-- document 02, E9: the same with the trail that the search leaves, by which the order of its entries is seen
pub record ForcedCase : Type 0 where
  pub v : ℕ
  pub list : List ℤ
  pub says : Outcome
  pub trail : List ℤ

abbrev pub forced_cases : List ForcedCase
forced_cases =
    -- `2 0 1 0`: 1 by the second clause, then 2
    record { v = 2; list = pos 2 ∷ pos 0 ∷ pos 1 ∷ pos 0 ∷ []; says = answer 1 3 2; trail = pos 1 ∷ pos 2 ∷ [] } ∷
    -- `1 0 -2 0`, and `-2 0 1 0`: by variable, not by signed literal
    record { v = 2; list = pos 1 ∷ pos 0 ∷ negsuc 1 ∷ pos 0 ∷ []; says = answer 1 3 2; trail = pos 1 ∷ negsuc 1 ∷ [] } ∷
    record { v = 2; list = negsuc 1 ∷ pos 0 ∷ pos 1 ∷ pos 0 ∷ []; says = answer 1 3 2; trail = pos 1 ∷ negsuc 1 ∷ [] } ∷
    -- `-1 0 1 0`, and `1 0 -1 0`: of two clauses that force the variable the earlier; then the other has failed
    record { v = 1; list = negsuc 0 ∷ pos 0 ∷ pos 1 ∷ pos 0 ∷ []; says = answer 2 2 1; trail = negsuc 0 ∷ [] } ∷
    record { v = 1; list = pos 1 ∷ pos 0 ∷ negsuc 0 ∷ pos 0 ∷ []; says = answer 2 2 1; trail = pos 1 ∷ [] } ∷
    -- `2 0 -1 0 1 0`: neither the first clause, nor of those that force variable 1 the last
    record { v = 2; list = pos 2 ∷ pos 0 ∷ negsuc 0 ∷ pos 0 ∷ pos 1 ∷ pos 0 ∷ []; says = answer 2 2 1; trail = negsuc 0 ∷ pos 0 ∷ [] } ∷
    -- `3 0 2 0 -3 1 0`: 1 is forced only after 3
    record {
      v = 3;
      list = pos 3 ∷ pos 0 ∷ pos 2 ∷ pos 0 ∷ negsuc 2 ∷ pos 1 ∷ pos 0 ∷ [];
      says = answer 1 4 3;
      trail = pos 2 ∷ pos 3 ∷ pos 1 ∷ [];
    } ∷
    -- `2 2 0 1 -1 0`: a clause with its literal twice forces it, one with both literals of a variable forces neither
    record {
      v = 2;
      list = pos 2 ∷ pos 2 ∷ pos 0 ∷ pos 1 ∷ negsuc 0 ∷ pos 0 ∷ [];
      says = answer 1 3 2;
      trail = pos 2 ∷ negsuc 0 ∷ [];
    } ∷
    []

-- the same V and list, with what the search tells and leaves
abbrev pub searches : ForcedCase → ForcedCase
searches c = let h : Handed = hands_out c.v c.list in record { v = c.v; list = c.list; says = h.outcome; trail = h.slices.trail }

-- document 02, E10: a call, and all that it hands out
pub record NumberCase : Type 0 where
  pub call : Call
  pub gets : Search
  pub budget : ℕ
  pub says : Handed

-- what a call is refused with, the slices being as they were
abbrev refused_as : ℕ → ℕ → Search → Handed
refused_as number beside s = record { outcome = refusal number beside; slices = s.slices }

abbrev refused : Call → ℕ → ℕ → Search → NumberCase
refused x number beside s = record { call = x; gets = s; budget = 9; says = refused_as number beside s }

-- the clauses of the 1×1 open grid
abbrev one_cell_list : List ℤ
one_cell_list =
    pos 1 ∷ pos 0 ∷ pos 1 ∷ pos 0 ∷ pos 2 ∷ pos 0 ∷ negsuc 1 ∷ negsuc 0 ∷ pos 0 ∷ negsuc 1 ∷ pos 0 ∷ pos 1 ∷ pos 3 ∷ pos 0 ∷
    negsuc 0 ∷ negsuc 2 ∷ pos 0 ∷ negsuc 1 ∷ pos 3 ∷ pos 0 ∷ pos 2 ∷ negsuc 2 ∷ pos 0 ∷ []

abbrev pub number_cases : List NumberCase
number_cases =
    -- 1×1 open from empty, over numbers that are not looked at: 1 by clause 1, 2 by clause 3, then none at step 3
    record {
      call = Searching;
      gets = search_on 3 one_cell_list (pos 0 ∷ pos 0 ∷ pos 0 ∷ []) (0 ∷ 0 ∷ 0 ∷ []) (7 ∷ 7 ∷ 7 ∷ []) 0;
      budget = 9;
      says = handed (answer 2 3 2) (pos 1 ∷ pos 2 ∷ pos 0 ∷ []) (0 ∷ 0 ∷ 0 ∷ []) (1 ∷ 3 ∷ 0 ∷ []);
    } ∷
    -- `1 -2 0`, trail `1 2`: −2 is false only by a later entry
    refused Searching 22 0 (search_on 2 (pos 1 ∷ negsuc 1 ∷ pos 0 ∷ []) (pos 1 ∷ pos 2 ∷ []) (0 ∷ 0 ∷ []) (1 ∷ 0 ∷ []) 2) ∷
    -- the same clause, trail `2 1`: it is by an earlier one; with budget 0
    record {
      call = Searching;
      gets = search_on 2 (pos 1 ∷ negsuc 1 ∷ pos 0 ∷ []) (pos 2 ∷ pos 1 ∷ []) (1 ∷ 0 ∷ []) (0 ∷ 1 ∷ []) 2;
      budget = 0;
      says = handed (answer 3 0 2) (pos 2 ∷ pos 1 ∷ []) (1 ∷ 0 ∷ []) (0 ∷ 1 ∷ []);
    } ∷
    -- a number beside a mark 1, though the clause fits; one above the number of clauses; a clause without the literal
    refused Searching 22 0 (search_on 1 (pos 1 ∷ pos 0 ∷ []) (pos 1 ∷ []) (1 ∷ []) (1 ∷ []) 1) ∷
    refused Searching 22 0 (search_on 1 (pos 1 ∷ pos 0 ∷ []) (pos 1 ∷ []) (0 ∷ []) (18446744073709551615 ∷ []) 1) ∷
    refused Searching 22 0 (search_on 1 (pos 1 ∷ pos 0 ∷ []) (negsuc 0 ∷ []) (0 ∷ []) (1 ∷ []) 1) ∷
    -- the first entry that breaks it: trail `1 2`, of which clause `1 0` is a reason for the first alone
    refused Searching 22 1 (search_on 2 (pos 1 ∷ pos 0 ∷ []) (pos 1 ∷ pos 2 ∷ []) (0 ∷ 0 ∷ []) (1 ∷ 1 ∷ []) 2) ∷
    -- `1 1 0` is a reason for 1; `1 -1 0` for nothing
    record {
      call = Searching;
      gets = search_on 1 (pos 1 ∷ pos 1 ∷ pos 0 ∷ []) (pos 1 ∷ []) (0 ∷ []) (1 ∷ []) 1;
      budget = 9;
      says = handed (answer 1 1 1) (pos 1 ∷ []) (0 ∷ []) (1 ∷ []);
    } ∷
    refused Searching 22 0 (search_on 1 (pos 1 ∷ negsuc 0 ∷ pos 0 ∷ []) (pos 1 ∷ []) (0 ∷ []) (1 ∷ []) 1) ∷
    -- no numbers: 22, after 16 and 18 and before 20
    refused Searching 16 0 (search_on 1 (pos 5 ∷ []) (pos 0 ∷ []) (0 ∷ []) [] 0) ∷
    refused Searching 22 0 (search_on 1 (pos 1 ∷ pos 0 ∷ []) (pos 0 ∷ []) (0 ∷ []) [] 0) ∷
    refused Searching 18 0 (search_on 1 (pos 1 ∷ pos 0 ∷ []) (pos 0 ∷ []) (0 ∷ []) [] 1) ∷
    refused Following 22 0 (search_on 1 (pos 1 ∷ pos 0 ∷ []) (pos 0 ∷ []) (0 ∷ []) [] 0) ∷
    -- the unused mark 255 and the unused number stay as they were
    refused Searching 22 0 (search_on 2 [] (negsuc 1 ∷ pos 9 ∷ []) (0 ∷ 255 ∷ []) (5 ∷ 9 ∷ []) 1) ∷
    -- with budget 0 the unused ones are written 0
    record {
      call = Searching;
      gets = search_on 2 [] (pos 1 ∷ pos 9 ∷ []) (1 ∷ 9 ∷ []) (0 ∷ 9 ∷ []) 1;
      budget = 0;
      says = handed (answer 3 0 1) (pos 1 ∷ pos 0 ∷ []) (1 ∷ 0 ∷ []) (0 ∷ 0 ∷ []);
    } ∷
    -- `1 2 0 1 -2 0`: after the choice −1 clause 1 forces 2, clause 2 has failed, and −1 is negated
    record {
      call = Searching;
      gets = search_on 2 (pos 1 ∷ pos 2 ∷ pos 0 ∷ pos 1 ∷ negsuc 1 ∷ pos 0 ∷ []) (pos 0 ∷ pos 0 ∷ []) (0 ∷ 0 ∷ []) (0 ∷ 0 ∷ []) 0;
      budget = 3;
      says = handed (answer 3 3 1) (pos 1 ∷ pos 0 ∷ []) (0 ∷ 0 ∷ []) (0 ∷ 0 ∷ []);
    } ∷
    -- `-1 2 0 1 0` halted after two steps with two entries used, the first by clause 2 and the second by clause 1
    record {
      call = Searching;
      gets = search_on 3 (negsuc 0 ∷ pos 2 ∷ pos 0 ∷ pos 1 ∷ pos 0 ∷ []) (pos 0 ∷ pos 0 ∷ pos 0 ∷ []) (0 ∷ 0 ∷ 0 ∷ []) (9 ∷ 9 ∷ 9 ∷ []) 0;
      budget = 2;
      says = handed (answer 3 2 2) (pos 1 ∷ pos 2 ∷ pos 0 ∷ []) (0 ∷ 0 ∷ 0 ∷ []) (2 ∷ 1 ∷ 0 ∷ []);
    } ∷
    -- `next` on `-1 -2`, whose second entry is by clause `1 -2 0`: it drops the choice −1, and the negated choice has the number 0
    record {
      call = Following;
      gets = search_on 2 (pos 1 ∷ negsuc 1 ∷ pos 0 ∷ []) (negsuc 0 ∷ negsuc 1 ∷ []) (1 ∷ 0 ∷ []) (0 ∷ 1 ∷ []) 2;
      budget = 1;
      says = handed (answer 3 1 1) (pos 1 ∷ pos 0 ∷ []) (0 ∷ 0 ∷ []) (0 ∷ 0 ∷ []);
    } ∷
    []

-- the same call, with what it hands out
abbrev pub called : NumberCase → NumberCase
called c = record { call = c.call; gets = c.gets; budget = c.budget; says = hands c.call c.gets c.budget }
