-- What is read from a text, and what the two calls hand out.
use Rattle.std.specs.Prelude.{ℕ, ℤ, length, take, ◌≡◌, List, None}
use Rattle.answers.specs.Outcome.{answer}
use Rattle.answers.specs.Lent.{filled}
use Rattle.cnf.specs.Clauses.{clause_count}
use Rattle.dimacs.specs.Reader.{refused_at, list_read, header_read}
use Rattle.dimacs.specs.Calls.{writer_answer, writer_leaves, reader_answer, reader_leaves}

-- the reader takes the text and reads V, the list and its number of clauses
pub record ReadAs (text : List ℕ) (v : ℕ) (ls : List ℤ) : Type 0 where
  pub taken : refused_at text ≡ None
  pub list : list_read text ≡ ls
  pub variables : (header_read text).variables ≡ v
  pub clauses : (header_read text).clauses ≡ clause_count ls

-- the writer answers: the text is written, and its length told
pub record Writes (v : ℕ) (ls : List ℤ) (buf text : List ℕ) : Type 0 where
  pub outcome : writer_answer v ls buf ≡ answer (length text) 0 0
  pub left : writer_leaves v ls buf ≡ filled buf text

-- the reader answers: the list is written; its length, V and the number of clauses are told
pub record Reads (text : List ℕ) (buf : List ℤ) (v : ℕ) (ls : List ℤ) : Type 0 where
  pub outcome : reader_answer text buf ≡ answer (length ls) v (clause_count ls)
  pub left : reader_leaves text buf ≡ filled buf ls

-- the bytes that the writer counts, out of the buffer that it leaves
abbrev pub written : ℕ → List ℤ → List ℕ → List ℕ
written v ls buf = take (writer_answer v ls buf).first (writer_leaves v ls buf)

-- the elements that the reader counts, out of the buffer that it leaves
abbrev pub elements_read : List ℕ → List ℤ → List ℤ
elements_read text buf = take (reader_answer text buf).first (reader_leaves text buf)
