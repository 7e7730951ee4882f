-- What the judge tells: rows 7 and 10 to 15 of "Turned down". Each cause is sought over the whole board before the next.
use Rattle.std.specs.Prelude.{ℕ, eqb, leb, ltb, length, get_or, Bool, true, false, not, ◌&&◌, ◌||◌, List, [], ◌∷◌, ◌++◌, Option, None, Some, Result, Ok, Err}
use Rattle.answers.specs.declared.Outcome.{Outcome}
use Rattle.answers.specs.First.{first_where}
use Rattle.answers.specs.Outcome.{refusal, answer, Row, row, cause, first_refusal}
use Rattle.rules.specs.declared.Direction.{Direction}
use Rattle.rules.specs.declared.Direction.TheVariants.{North as north, East as east, South as south, West as west}
use Rattle.rules.specs.declared.JudgeRefusal.{JudgeRefusal}
use Rattle.rules.specs.declared.JudgeRefusal.TheVariants.{Record, DrawingLength, Rule}
use Rattle.rules.specs.declared.RuleRefusal.{RuleRefusal}
use Rattle.rules.specs.declared.RuleRefusal.TheVariants.{DrawingByte, Touching, ClueNotMet, LinkUnmatched, NotTwoLinks, NotOneLoop}
use Rattle.answers.specs.Lists.{how_many}
use Rattle.rules.specs.Directions.{opposite, degree}
use Rattle.rules.specs.Record.{record_rows, record_refusal_outcome}
use Rattle.rules.specs.Board.{Clue, Board, board_of}
use Rattle.rules.specs.Drawing.{white, link_at, black_at}
use Rattle.rules.specs.Walk.{loop_cells, among}

-- 0x20 and "clue or shaded" not together: 0x20 at an open cell, or another byte at one that is not open
abbrev pub not_together : Bool → ℕ → Bool
not_together true v = eqb v 0x20
not_together false v = not (eqb v 0x20)

abbrev pub bad_byte : Bool → ℕ → Bool
bad_byte is_open v = ltb 0x20 v || (leb 0x11 v && leb v 0x1F) || not_together is_open v

-- there is a neighbour, and the test holds of it
abbrev pub there : (ℕ → Bool) → Option ℕ → Bool
there test None = false
there test (Some y) = test y

module _ (b : Board) (ds : List ℕ) where
  abbrev pub bad_byte_at : ℕ → Bool
  bad_byte_at x = bad_byte (b.is_open x) (get_or ds x 0)

  -- black beside black to its east or south
  abbrev pub touches_at : ℕ → Bool
  touches_at x = black_at ds x && (there (black_at ds) (b.next east x) || there (black_at ds) (b.next south x))

  -- a link of x that is unmatched or off the board
  abbrev pub unmatched_link : ℕ → Direction → Bool
  unmatched_link x d = link_at ds x d && not (there (λ y. link_at ds y (opposite d)) (b.next d x))

  abbrev pub unmatched_link_at : ℕ → Bool
  unmatched_link_at x = unmatched_link x north || unmatched_link x east || unmatched_link x south || unmatched_link x west

  abbrev pub white_at : ℕ → Bool
  white_at x = white b (black_at ds) x

  abbrev pub not_two_at : ℕ → Bool
  not_two_at x = white_at x && not (eqb (degree (link_at ds x)) 2)

  -- a white cell that is not on the loop of s
  abbrev pub off_loop_at : ℕ → ℕ → Bool
  off_loop_at s x = white_at x && not (among x (loop_cells b.size b.next (link_at ds) s))

abbrev pub unless_met : Bool → ℕ → Option ℕ → Option ℕ
unless_met true x rest = rest
unless_met false x rest = Some x

-- the cell of the first clue whose line has not its number of black cells
abbrev pub unmet_clue : (ℕ → Bool) → List Clue → Option ℕ
unmet_clue black [] = None
unmet_clue black (c ∷ cs) = unless_met (eqb (how_many black c.line) c.number) c.cell (unmet_clue black cs)

abbrev pub from_first : Option ℕ → (ℕ → Option ℕ) → Option ℕ
from_first None off = Some 0
from_first (Some s) off = off s

module _ (b : Board) (ds : List ℕ) where
  -- 7: drawing not N bytes
  abbrev pub wrong_drawing : Option ℕ
  wrong_drawing = cause (not (eqb (length ds) b.size))

  -- 10: drawing byte
  abbrev pub wrong_byte : Option ℕ
  wrong_byte = first_where (bad_byte_at b ds) b.size

  -- 11: black beside black
  abbrev pub touching : Option ℕ
  touching = first_where (touches_at b ds) b.size

  -- 12: clue not met; of those that are not, the one with the lowest cell (`clue_place`)
  abbrev pub clue_not_met : Option ℕ
  clue_not_met = unmet_clue (black_at ds) b.clues

  -- 13: link unmatched or off the board
  abbrev pub link_unmatched : Option ℕ
  link_unmatched = first_where (unmatched_link_at b ds) b.size

  -- 14: white cell without exactly two links
  abbrev pub not_two_links : Option ℕ
  not_two_links = first_where (not_two_at b ds) b.size

  -- 15: no white cell, or the first white cell not on the first white cell's loop: links from that cell do not lead to it (`loop_place`)
  abbrev pub not_one_loop : Option ℕ
  not_one_loop = from_first (first_where (white_at b ds) b.size) (λ s. first_where (off_loop_at b ds s) b.size)

  -- the rules, for a drawing of N bytes
  abbrev pub rule_rows : List Row
  rule_rows =
      row 10 wrong_byte ∷
      row 11 touching ∷
      row 12 clue_not_met ∷
      row 13 link_unmatched ∷
      row 14 not_two_links ∷
      row 15 not_one_loop ∷
      []

  abbrev pub judge_rows : List Row
  judge_rows = row 7 wrong_drawing ∷ rule_rows

-- yes: there is nothing to tell beside it
abbrev pub says_yes : Outcome
says_yes = answer 0 0 0

-- judge 1-5, 7, 10-15
abbrev pub judge_answer : List ℕ → List ℕ → Outcome
judge_answer s ds = first_refusal (record_rows s ++ judge_rows (board_of s) ds) says_yes

abbrev pub rule_refusal_outcome : RuleRefusal → Outcome
rule_refusal_outcome (DrawingByte x) = refusal 10 x
rule_refusal_outcome (Touching x) = refusal 11 x
rule_refusal_outcome (ClueNotMet x) = refusal 12 x
rule_refusal_outcome (LinkUnmatched x) = refusal 13 x
rule_refusal_outcome (NotTwoLinks x) = refusal 14 x
rule_refusal_outcome (NotOneLoop x) = refusal 15 x

abbrev pub rule_verdict_outcome : Result Unit RuleRefusal → Outcome
rule_verdict_outcome (Ok u) = says_yes
rule_verdict_outcome (Err f) = rule_refusal_outcome f

abbrev pub judge_refusal_outcome : JudgeRefusal → Outcome
judge_refusal_outcome (Record r) = record_refusal_outcome r
judge_refusal_outcome DrawingLength = refusal 7 0
judge_refusal_outcome (Rule f) = rule_refusal_outcome f

abbrev pub verdict_outcome : Result Unit JudgeRefusal → Outcome
verdict_outcome (Ok u) = says_yes
verdict_outcome (Err f) = judge_refusal_outcome f
