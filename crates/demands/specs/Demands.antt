-- The three demands of the request, each one statement, in its order; what is in quotation marks is the request's, word for word.
-- They speak of the definitions to which contracts bind the code. An "Answer" is what a call tells: 0 as its number, or the number of a refusal; "Leaves"
-- is what it leaves in a lent buffer. The function whose contract carries each to the code:
--   record_answer                            the record reader, `rules::record::read`
--   judge_answer                             the judge, `judge::judge`
--   encoder_answer, encoder_leaves            the encoder, `encoder_call::encode`
--   decoder_answer, decoder_leaves            the decoder, `decoder::decode`
--   by_search, all that it hands out         the search, `search_call::search`
--   writer_answer, writer_leaves              the text writer, `dimacs_writer::write`
--   reader_answer, reader_leaves              the text reader, `dimacs_reader::read`
use Rattle.std.specs.Prelude.{ℕ, ◌+◌, ◌-◌, ◌≤◌, ◌<◌, ◌^◌, ℤ, length, ◌≡◌, Bool, ◌↔◌, ◌⊎◌, List, [], ◌∷◌, ◌++◌, None as none, Some as some}
use Rattle.answers.specs.First.{first_where, Least, LeastWith}
use Rattle.answers.specs.Outcome.{answer}
use Rattle.answers.specs.Lent.{capped, too_short, filled}
use Rattle.answers.specs.ByRows.{ByRows}
use Rattle.rules.specs.Record.{record_rows, record_answer, IsAccepted}
use Rattle.rules.specs.Board.{Board, board_of}
use Rattle.rules.specs.Drawing.{SolutionBytes}
use Rattle.rules.specs.Judge.{wrong_byte, clue_not_met, link_unmatched, not_two_links, not_one_loop, judge_rows, judge_answer, says_yes}
use Rattle.rules_theory.specs.Places.{FirstUnmet, FirstUnreached}
use Rattle.cnf.specs.Literals.{wrong_list}
use Rattle.cnf.specs.Clauses.{clause_count}
use Rattle.dimacs.specs.Text.{text_of, Narrow}
use Rattle.dimacs.specs.Accepted.{Accepted}
use Rattle.dimacs.specs.Reader.{refused_at}
use Rattle.dimacs.specs.Calls.{writer_rows, writer_answer, writer_leaves, reader_rows, reader_answer, reader_leaves}
use Rattle.dimacs_theory.specs.Place.{Refused}
use Rattle.dimacs_theory.specs.Reading.{Writes, Reads, written as text_written, elements_read}
use Rattle.answers.specs.Lists.{each, joined}
use Rattle.encoder.specs.Variables.{variable_count}
use Rattle.encoder.specs.Clauses.{touching, clue_lines, links, start, distance, written, clause_list}
use Rattle.encoder.specs.Encoding.{encoder_rows, encoder_answer, encoder_leaves}
use Rattle.encoder.specs.Decoding.{wrong_value, FirstWrongValue, decoder_answer, decoder_leaves, Satisfying, DecodesTo}
use Rattle.search.specs.Trail.{Slices, values_of}
use Rattle.search.specs.Run.{Found, None, Halted}
use Rattle.search.specs.Call.{Search, Handed, wrong_entry_at, Searching, rows_of, begins, IsTaken, by_search, Says, steps, ends_at}
use Rattle.search_theory.specs.Places.{ListFault, EntryFault}
use Rattle.search_theory.specs.Openings.{OpenAt, FoundOne}
use Rattle.search_theory.specs.ListedSteps.{ByListedSteps}
use Rattle.solver.specs.Begun.{BegunOn}
use Rattle.demands.specs.DecoderTable.{decoder_table}

-- DEMAND 1
pub record Demand1 : Type 0 where
  -- "If a record, drawing, value list, clause list, trail or text breaks document 01, or an output is too short, the call is turned down with the number and
  -- place given there and every lent buffer stays as it was; all other input is answered,"
  -- (Each call with the numbers of its rows in document 01's order, its rows, what it tells, and that its lent buffers are as they were; record reader and
  -- judge are lent none. `ByRows` says the rest.)
  pub record_reader : (s : List ℕ) → ByRows (1 ∷ 2 ∷ 3 ∷ 4 ∷ 5 ∷ []) (record_rows s) (record_answer s) Unit
  pub judge : (s ds : List ℕ)
      → ByRows (1 ∷ 2 ∷ 3 ∷ 4 ∷ 5 ∷ 7 ∷ 10 ∷ 11 ∷ 12 ∷ 13 ∷ 14 ∷ 15 ∷ []) (record_rows s ++ judge_rows (board_of s) ds) (judge_answer s ds) Unit
  pub encoder : (s : List ℕ) (out : List ℤ) → ByRows (1 ∷ 2 ∷ 3 ∷ 4 ∷ 5 ∷ 6 ∷ []) (encoder_rows s out) (encoder_answer s out) (encoder_leaves s out ≡ out)
  pub decoder : (s values lent : List ℕ)
      → ByRows (1 ∷ 2 ∷ 3 ∷ 4 ∷ 5 ∷ 8 ∷ 7 ∷ 9 ∷ 10 ∷ 11 ∷ 12 ∷ 13 ∷ 14 ∷ 15 ∷ []) (decoder_table s values lent) (decoder_answer s values lent)
      (decoder_leaves s values lent ≡ lent)
  pub search : (c : Search) (budget : ℕ)
      → ByRows (17 ∷ 16 ∷ 18 ∷ 22 ∷ []) (rows_of c Searching) (by_search c budget).outcome ((by_search c budget).slices ≡ c.slices)
  pub writer : (v : ℕ) (ls : List ℤ) (out : List ℕ)
      → ByRows (17 ∷ 16 ∷ 6 ∷ []) (writer_rows v ls (length out)) (writer_answer v ls out) (writer_leaves v ls out ≡ out)
  pub text_reader : (text : List ℕ) (out : List ℤ) → ByRows (19 ∷ 6 ∷ []) (reader_rows text (length out)) (reader_answer text out) (reader_leaves text out ≡ out)
  -- (The places: each "first .." of the table is the least index at which a test holds; those beside 9 (the variable's number, from 1), 12, 15 (where no row
  -- before it that it depends on has its cause), 16 and 18 are said here in the table's words; beside 6 stand the elements needed; and the place beside 19 is
  -- the "first byte where no accepted text can go on, or the text's length if it ends too soon". That beside 22, which is document 02's, is in RequestE10.)
  pub first_place : (p : ℕ → Bool) (n m : ℕ) → first_where p n ≡ some m ↔ Least p n m
  pub value-place : (values : List ℕ) (n : ℕ) → wrong_value values ≡ some n ↔ FirstWrongValue values n
  pub clue_place : (s ds : List ℕ) (x : ℕ) → clue_not_met (board_of s) ds ≡ some x ↔ FirstUnmet (board_of s).clues ds x
  pub loop_place : (s : List ℕ) → IsAccepted s → (ds : List ℕ) → length ds ≡ (board_of s).size
      → wrong_byte (board_of s) ds ≡ none → link_unmatched (board_of s) ds ≡ none → not_two_links (board_of s) ds ≡ none
      → (x : ℕ) → not_one_loop (board_of s) ds ≡ some x ↔ FirstUnreached (board_of s) ds x
  pub list_place : (v : ℕ) (ls : List ℤ) (i : ℕ) → wrong_list v ls ≡ some i ↔ ListFault v ls i
  pub entry_place : (v : ℕ) (s : Slices) (used i : ℕ) → first_where (wrong_entry_at v s) used ≡ some i ↔ LeastWith (EntryFault v s) used i
  pub too_short : (room needed n : ℕ) → too_short room needed ≡ some n ↔ (room < needed) × (n ≡ capped needed)
  pub text_place : (text : List ℕ) (k : ℕ) → refused_at text ≡ some k ↔ Refused Accepted text k
  -- "and every call ends."
  -- (This is the language's, whose check proves of each function that it returns.)

-- DEMAND 2
pub record Demand2 : Type 0 where
  -- "The judge says yes exactly when a drawing keeps every Yajilin rule;"
  pub judge_right : (s : List ℕ) → IsAccepted s → (ds : List ℕ) → judge_answer s ds ≡ says_yes ↔ SolutionBytes (board_of s) ds
  -- "the clauses are those of document 01 in its order;"
  -- (Unless refused, the encoder writes them and touches nothing past them; it tells the count of elements written, V and the number of clauses.)
  pub clauses : (b : Board) → clause_list b ≡ each (joined (touching b ∷ clue_lines b ∷ links b ∷ start b ∷ distance b ∷ [])) (written b)
  pub encoded : (s : List ℕ) (out : List ℤ) → (encoder_answer s out).number ≡ 0
      → (encoder_answer s out ≡ answer (length (clause_list (board_of s))) (variable_count (board_of s)) (clause_count (clause_list (board_of s))))
      × (encoder_leaves s out ≡ filled out (clause_list (board_of s)))
  -- "a list's DIMACS text reads back to that list,"
  -- (The text is what the writer writes unless refused. The reader reads it, given room; a slice has fewer than 2^64 elements.)
  pub text : (v : ℕ) (ls : List ℤ) (buf : List ℕ) → (writer_answer v ls buf).number ≡ 0 → Writes v ls buf (text_of v ls)
  pub reads_back : (v : ℕ) (ls : List ℤ) (buf : List ℕ) (out : List ℤ) → length ls < 2 ^ 64 → (writer_answer v ls buf).number ≡ 0 → length ls ≤ length out
      → Reads (text_written v ls buf) out v ls
  -- "and a text without comments is written again byte for byte;"
  -- (This is said of document 01's form, which E6 calls narrow: the text of some V and list. What was read is written, given room.)
  pub written_again : (text : List ℕ) (out : List ℤ) (buf : List ℕ) → Narrow text → (reader_answer text out).number ≡ 0 → length text ≤ length buf
      → Writes (reader_answer text out).second (elements_read text out) buf text
  -- "and the search makes the listed steps, no others."
  -- (What it hands out is what these steps come to, and they come to nothing else.)
  pub listed_steps : (c : Search) → IsTaken Searching c → (budget : ℕ) → ByListedSteps Searching c budget (by_search c budget)
  pub no_others : (c : Search) → IsTaken Searching c → (budget : ℕ) (h : Handed) → ByListedSteps Searching c budget h → h ≡ by_search c budget

-- DEMAND 3
pub record Demand3 : Type 0 where
  -- "Whatever the accepted grid, each satisfying assignment of its clauses decodes to a solution,"
  pub decodes : (s : List ℕ) → IsAccepted s → (a : List Bool) → Satisfying s a → (ds : List ℕ) × DecodesTo s a ds × SolutionBytes (board_of s) ds
  -- "and each solution comes from exactly one of those assignments."
  pub comes_from_one : (s : List ℕ) → IsAccepted s → (ds : List ℕ) → SolutionBytes (board_of s) ds
      → (a : List Bool) × Satisfying s a × DecodesTo s a ds × ((c : List Bool) → Satisfying s c → DecodesTo s c ds → c ≡ a)
  -- "Whatever accepted list and trail the search begins with, and whatever its budget, the satisfying assignments open at its beginning are exactly those open
  -- at its end."
  pub same_open : (c : Search) → IsTaken Searching c → (budget : ℕ) (a : List Bool)
      → OpenAt c.variables c.list (begins c) a ↔ OpenAt c.variables c.list (ends_at (by_search c budget)) a
  -- "Unless halted, it says "none" if there are none, and otherwise "found", with one of them as its trail."
  pub unless_halted : (c : Search) → IsTaken Searching c → (budget : ℕ) → (Says (by_search c budget) Halted → ⊥)
      → (Says (by_search c budget) None × ((a : List Bool) → OpenAt c.variables c.list (begins c) a → ⊥))
      ⊎ (Says (by_search c budget) Found × FoundOne Searching c (ends_at (by_search c budget)))
  -- "The steps it reports for V variables are at most its budget and at most 2^(V+1) − 1;"
  pub few_steps : (c : Search) → IsTaken Searching c → (budget : ℕ)
      → (steps (by_search c budget) ≤ budget) × (steps (by_search c budget) ≤ 2 ^ (c.variables + 1) - 1)
  -- "if it is halted, they are its whole budget and fewer than 2^(V+1) − 1."
  pub halted_steps : (c : Search) → IsTaken Searching c → (budget : ℕ) → Says (by_search c budget) Halted
      → (steps (by_search c budget) ≡ budget) × (steps (by_search c budget) < 2 ^ (c.variables + 1) - 1)
  -- "Begun empty on a grid's clauses and not halted,"
  -- (No search refuses a grid's clauses.)
  pub begun_taken : (s : List ℕ) (c : Search) → BegunOn s c → IsTaken Searching c
  -- "it says "none" exactly when the grid has no solution,"
  pub none_exactly : (s : List ℕ) (c : Search) → BegunOn s c → (budget : ℕ) → (Says (by_search c budget) Halted → ⊥)
      → Says (by_search c budget) None ↔ ((ds : List ℕ) → SolutionBytes (board_of s) ds → ⊥)
  -- "and at "found" its trail decodes to one."
  pub found_decodes : (s : List ℕ) (c : Search) → BegunOn s c → (budget : ℕ) → Says (by_search c budget) Found
      → (ds : List ℕ) × DecodesTo s (values_of c.variables (ends_at (by_search c budget))) ds × SolutionBytes (board_of s) ds
