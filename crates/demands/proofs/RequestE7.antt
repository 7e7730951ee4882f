-- Document 02's request E7 holds. What it says stands in specs/RequestE7.antt; what is cited here is proved in sheet. Assumes nothing.
use lib.ListN.{length}
use mathlib.Core.Path.{refl}
use Rattle.answers.specs.Outcome.{answer}
use Rattle.answers.specs.Lent.{filled}
use Rattle.answers.proofs.ByRows.{by_rows}
use Rattle.answers.proofs.Settled.{untouched}
use Rattle.rules.specs.Record.{grid_of}
use Rattle.sheet.specs.Sheet.{sheet_of}
use Rattle.sheet.specs.SheetCall.{sheet_rows, sheet_answer}
use Rattle.sheet.proofs.Widths.{sheet_length}
use Rattle.sheet.proofs.GotBack.{got_back}
use Rattle.sheet.proofs.Cases.{cases_hold}
use Rattle.sheet.proofs.Theorems as sheet
use Rattle.demands.specs.RequestE7.{RequestE7}

pub request_e7 : RequestE7
request_e7 =
    record {
      lines = sheet.lines_many;
      characters = sheet.lines_wide;
      line_feeds = sheet.lines_whole;
      bytes = λ s ds. sheet_length (grid_of s) s ds;
      most_bytes = sheet.most_bytes;
      clue = λ s ds r c i d n e. sheet.shows s ds i.row i.column e;
      shaded = λ s ds r c i e. sheet.shows s ds i.row i.column e;
      black = λ s ds solution r c i h. sheet.shows_black s ds i.row i.column solution h;
      white = λ s ds r c i h. sheet.shows_white s ds i.row i.column h;
      between = λ s ds r c i h. sheet.shows_under s ds i.row i.column h;
      samples = cases_hold;
      got_back = got_back;
      same_sheets = λ s t ds es a b p q. (sheet.same_grid a b p q, λ e. sheet.same_sheet e.0 e.1);
      by_rows = λ s ds out.
          by_rows (answer (length (sheet_of s ds)) 0 0) refl _ (sheet_rows s ds out) refl refl
          (untouched (sheet_answer s ds out) out (filled out (sheet_of s ds)));
      refused_by_judge = sheet.refused_by_judge;
      refused_short = sheet.refused_short;
      written = sheet.written;
    }
