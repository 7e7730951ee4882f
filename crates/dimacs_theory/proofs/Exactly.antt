-- The reader as an automaton whose live states have completions, and the texts that it takes. Assumes nothing.
use Prim.Native.Nat.{ℕ}
use native.Mathlib.Omega.{arith}
use lib.IntN.{ℤ}
use lib.ListN.{length, drop}
use lib.Seq.{drop-append_seam}
use mathlib.Core.Path.{◌≡◌, sym, ◌∙◌, ap, subst, subst₂}
use mathlib.Core.Logic.{◌↔◌}
use Rattle.std.specs.Prelude.{None, Some}
use mathlib.Core.List.{List, [], ◌++◌, append_assoc, map}
use Rattle.answers.specs.Lists.{All}
use Rattle.cnf.specs.Clauses.{clause_count}
use Rattle.dimacs.specs.Text.{header_line, CommentByte, comment_lines, HasText, Narrow}
use Rattle.dimacs.specs.Accepted.{blank, bytes_of, numbers_of, Accepted}
use Rattle.dimacs.specs.Automaton.{next}
use Rattle.dimacs.specs.Reader.{Header, State, line, step_byte, accepts, no_header, header_in, refused_at, header_read}
use Rattle.dimacs_theory.specs.Place.{Refused, Automaton}
use Rattle.dimacs_theory.specs.Reading.{ReadAs}
use Rattle.dimacs_theory.specs.Lines.{BlankRun, spaced_bytes, spaced_numbers, Spaced}
use Rattle.dimacs_theory.specs.Tokens.{HeaderStands}
use Rattle.dimacs_theory.proofs.Automata.{accepted_ends, ends_accepted, place}
use Rattle.dimacs_theory.proofs.Pieces.{spaced_pieces, spaced-bytes, spaced-numbers, laid_out, line_numbers, lines_bytes, lines_numbers, lines_spaced}
use Rattle.dimacs_theory.proofs.Runs.{ends, reads, ran, accepted_run}
use Rattle.dimacs_theory.proofs.Shapes.{Before}
use Rattle.dimacs_theory.proofs.ReadBack.{kept, start, run_accepted}
use Rattle.dimacs_theory.proofs.Completions.{completion}

-- a state is live if something leads to it
pub reader : Automaton State
reader =
    record {
      step = step_byte;
      accepts = accepts;
      start = line;
      Live = λ s. (text : List ℕ) × (ls : List ℤ) × Before s text ls;
      begun = (_, _, start);
      kept = λ b l e. (_, _, kept b l.2 e);
      completes = λ {s} l. let c = completion l.2.shape in (c.rest, ends_accepted step_byte accepts s c.rest 0 (c.end, ends c.run, c.accepted));
    }

pub taken_accepted : (text : List ℕ) → refused_at text ≡ None → Accepted text
taken_accepted text e = let r = accepted_ends step_byte accepts line text 0 e in run_accepted (ran line text r.1).1 r.2

pub accepted_read : {text : List ℕ} (a : Accepted text) → ReadAs text a.variables (numbers_of a.pieces)
accepted_read {text} a =
    let r = accepted_run a in
    let h = ap (λ o. next o no_header header_in) (ends r.run) ∙ r.header in
    record {
      taken = ends_accepted step_byte accepts line text 0 (r.end, ends r.run, r.accepted);
      list = reads r.run ∙ r.list;
      variables = ap (λ (h : Header). h.variables) h;
      clauses = ap (λ (h : Header). h.clauses) h;
    }

-- its header line
pub accepted_header : {text : List ℕ} (a : Accepted text) → (after : ℕ) × HeaderStands text 0 (header_read text) after
accepted_header {text} a =
    let r = accepted_read a in
    let front = comment_lines a.comments ++ header_line a.variables (clause_count (numbers_of a.pieces)) in
    let whole : text ≡ front ++ bytes_of a.pieces = a.is ∙ sym (append_assoc (comment_lines a.comments) _ (bytes_of a.pieces)) in
    let w = a.has_text in (
      length front,
      record {
        comments = a.comments;
        bytes = a.bytes;
        has = rw (r.variables, r.clauses) (record {
          is = whole ∙ ap (λ bs. front ++ bs) (sym (ap (drop (length front)) whole ∙ drop-append_seam front (bytes_of a.pieces)));
          place = omega arith;
        });
        few = rw r.variables w.few;
        counted = rw r.clauses w.counted;
      },
    )

pub exactly : (text : List ℕ) → refused_at text ≡ None ↔ Accepted text
exactly text = (taken_accepted text, λ a. (accepted_read a).taken)

pub place_19 : (text : List ℕ) (k : ℕ) → refused_at text ≡ Some k ↔ Refused Accepted text k
unfolding reader
place_19 text k = place reader Accepted exactly text k

-- numbers with runs of blanks between them, after the header, are accepted ..
abbrev pub spaced_accepted : (cs : List (List ℕ)) → All (All CommentByte) cs → (v : ℕ) (first : List ℕ) (ns : List (ℤ × List ℕ)) → BlankRun first → Spaced ns
    → HasText v (spaced_numbers ns) → Accepted (comment_lines cs ++ (header_line v (clause_count (spaced_numbers ns)) ++ (first ++ spaced_bytes ns)))
spaced_accepted cs a v first ns t s w =
    record {
      comments = cs;
      bytes = a;
      variables = v;
      pieces = map blank first ++ spaced_pieces ns;
      formed = laid_out first ns t s;
      has_text = rw (spaced-numbers first ns) w;
      is = rw (spaced-numbers first ns, spaced-bytes first ns);
    }

-- .. and read
pub spaced_read : (cs : List (List ℕ)) (a : All (All CommentByte) cs) (v : ℕ) (first : List ℕ) (ns : List (ℤ × List ℕ)) → BlankRun first → Spaced ns
    → HasText v (spaced_numbers ns)
    → ReadAs (comment_lines cs ++ (header_line v (clause_count (spaced_numbers ns)) ++ (first ++ spaced_bytes ns))) v (spaced_numbers ns)
spaced_read cs a v first ns t s w = subst (ReadAs _ v) (spaced-numbers first ns) (accepted_read (spaced_accepted cs a v first ns t s w))

-- so is the narrow form, after comment lines too
narrow_is : {text : List ℕ} (n : Narrow text) → let ns = line_numbers n.list in
    header_line n.variables (clause_count (spaced_numbers ns)) ++ ([] ++ spaced_bytes ns) ≡ text
narrow_is n = rw (lines_numbers n.list, lines_bytes n.list) (sym n.is)

narrow_has : {text : List ℕ} (n : Narrow text) → HasText n.variables (spaced_numbers (line_numbers n.list))
narrow_has n = rw (lines_numbers n.list) n.has_text

pub narrow_accepted : {text : List ℕ} (cs : List (List ℕ)) → All (All CommentByte) cs → Narrow text → Accepted (comment_lines cs ++ text)
narrow_accepted cs a n =
    subst (λ t. Accepted (comment_lines cs ++ t)) (narrow_is n)
    (spaced_accepted cs a n.variables [] (line_numbers n.list) tt (lines_spaced n.list) (narrow_has n))

pub narrow_read : {text : List ℕ} (cs : List (List ℕ)) → All (All CommentByte) cs → (n : Narrow text)
    → ReadAs (comment_lines cs ++ text) n.variables n.list
narrow_read cs a n =
    subst₂ (λ t ls. ReadAs (comment_lines cs ++ t) n.variables ls) (narrow_is n) (lines_numbers n.list)
    (spaced_read cs a n.variables [] (line_numbers n.list) tt (lines_spaced n.list) (narrow_has n))
