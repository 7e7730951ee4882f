-- Document 02's request E6 holds. What it says stands in specs/RequestE6.antt; what is cited here is proved in dimacs_theory. Assumes nothing.
use Prim.Native.Nat.{ℕ}
use mathlib.Core.Path.{◌≡◌, refl, subst}
use Rattle.std.specs.Prelude.{Some}
use mathlib.Core.List.{List, [], ◌++◌, map}
use Rattle.answers.specs.Lists.{All}
use Rattle.answers.proofs.Elements.{all_in, all_at}
use Rattle.text.specs.Decimal.{decimal_in}
use Rattle.dimacs.specs.Text.{header_line}
use Rattle.dimacs.specs.Automaton.{end_from, refused_from}
use Rattle.dimacs.specs.Reader.{refused_at, list_from}
use Rattle.dimacs_theory.specs.Reading.{ReadAs, Writes}
use Rattle.dimacs_theory.proofs.Theorems as dimacs
use Rattle.dimacs_theory.proofs.Calls.{writer_right, reader_refused, reader_taken, reader_answers}
use Rattle.demands.specs.RequestE6.{TextRead, IsRead, TextRefused, IsRefused, texts_read, texts_refused, RequestE6}
use Rattle.demands.proofs.Demands.{demand_2}
use Rattle.demands.proofs.Stars.{at_each}

-- the texts, computed
abbrev read_text : TextRead → List ℕ
read_text s = header_line s.variables s.clauses ++ s.body

abbrev refused_text : TextRefused → List ℕ
refused_text s = header_line s.variables s.clauses ++ s.body

abbrev TextIsRead : TextRead → Type 0
TextIsRead s = ReadAs (read_text s) s.variables s.list

abbrev TextIsRefused : TextRefused → Type 0
TextIsRefused s = refused_at (refused_text s) ≡ Some s.place

read_as : All TextIsRead texts_read
unfolding decimal_in end_from refused_from list_from
read_as = (
  record { taken = refl; list = refl; variables = refl; clauses = refl },
  (
    record { taken = refl; list = refl; variables = refl; clauses = refl },
    (
      record { taken = refl; list = refl; variables = refl; clauses = refl },
      (record { taken = refl; list = refl; variables = refl; clauses = refl }, tt),
    ),
  ),
)

refused-at : map (λ s. refused_at (refused_text s)) texts_refused ≡ map (λ (s : TextRefused). Some s.place) texts_refused
unfolding decimal_in refused_from
refused-at = refl

-- .. and so the call tells
taken : All IsRead texts_read
taken = all_in IsRead texts_read (λ s m out room. reader_answers (read_text s) out (all_at TextIsRead read_as m) room)

turned_down : All IsRefused texts_refused
turned_down =
    let places = at_each (λ s. refused_at (refused_text s)) (λ (s : TextRefused). Some s.place) texts_refused refused-at in
    all_in IsRefused texts_refused (λ s m out. (reader_refused (refused_text s) out s.place).1 (all_at TextIsRefused places m))

pub request_e6 : RequestE6
request_e6 =
    record {
      any_runs = λ v first ns t s w out room. reader_answers _ out (dimacs.spaced_read [] tt v first ns t s w) room;
      takes = λ text out.
          let t = reader_taken text out in
          let a = dimacs.takes_accepted text in
          (λ n. a.0 (t.0 n), λ c. t.1 (a.1 c));
      reads = λ text a out room. reader_answers text out (dimacs.reads_accepted text a) room;
      taken = taken;
      turned_down = turned_down;
      header-line = dimacs.header-line;
      blank_first = λ cs a b text t out. (reader_refused _ out _).1 (dimacs.blank_first cs a b text t);
      writer = λ v ls buf e. subst (Writes v ls buf) (dimacs.clause_lines v ls (writer_right v ls buf e)) (demand_2.text v ls buf e);
      reads_back = dimacs.write_read;
      written_again = dimacs.written_again;
      narrow_read = λ cs a text n out room. reader_answers _ out (dimacs.narrow_read cs a text n) room;
      place = λ text out k.
          let r = reader_refused text out k in
          let p = dimacs.place_19 text k in
          (λ e. p.0 (r.0 e), λ e. r.1 (p.1 e));
    }
