-- Document 01's number and value tell every answer of the reader and the judge from every other. Assumes nothing.
use Prim.Native.Nat.{◌≤◌}
use native.Mathlib.Omega.{arith}
use lib.Dec.{eqb, leb}
use mathlib.Core.Path.{◌≡◌, refl, ap}
use mathlib.Core.Bool.{cond}
use Rattle.std.specs.Prelude.{Result, Ok, Err}
use Rattle.answers.specs.declared.Outcome.{Outcome}
use Rattle.answers.proofs.OneToOne.{OneToOne, Between, number-eqb, number_under, number_over}
use Rattle.rules.specs.declared.Kind.{Kind}
use Rattle.rules.specs.declared.Kind.TheVariants.{One, Two, Three}
use Rattle.rules.specs.declared.Grid.{Grid}
use Rattle.rules.specs.declared.RecordRefusal.{RecordRefusal}
use Rattle.rules.specs.declared.RecordRefusal.TheVariants.{Length, Kind as OtherKind, Side, Size, NotACell}
use Rattle.rules.specs.declared.RuleRefusal.{RuleRefusal}
use Rattle.rules.specs.declared.RuleRefusal.TheVariants.{DrawingByte, Touching, ClueNotMet, LinkUnmatched, NotTwoLinks, NotOneLoop}
use Rattle.rules.specs.declared.JudgeRefusal.{JudgeRefusal}
use Rattle.rules.specs.declared.JudgeRefusal.TheVariants.{Record, DrawingLength, Rule}
use Rattle.rules.specs.Record.{kind_number, read_kind, kind_of, grid_answer, record_refusal_outcome, parsed_outcome}
use Rattle.rules.specs.Judge.{rule_refusal_outcome, judge_refusal_outcome, verdict_outcome}

-- the reader's refusals are 1 to 5
pub record_numbers : Between record_refusal_outcome 1 5
record_numbers = record { bounds = by }
  where
    by : (r : RecordRefusal) → (1 ≤ (record_refusal_outcome r).number) × ((record_refusal_outcome r).number ≤ 5)
    by Length = (omega arith, omega arith)
    by OtherKind = (omega arith, omega arith)
    by Side = (omega arith, omega arith)
    by Size = (omega arith, omega arith)
    by (NotACell x) = (omega arith, omega arith)

pub record_refusals : OneToOne record_refusal_outcome
record_refusals = record { from = from; back = back }
  where
    from : Outcome → RecordRefusal
    from t =
        cond (eqb t.number 1) Length
        (cond (eqb t.number 2) OtherKind
        (cond (eqb t.number 3) Side
        (cond (eqb t.number 4) Size
        (NotACell t.first))))

    back : (r : RecordRefusal) → from (record_refusal_outcome r) ≡ r
    back Length = refl
    back OtherKind = refl
    back Side = refl
    back Size = refl
    back (NotACell x) = refl

-- the grid of an accepted record, by what is told of it
abbrev pub grid_told : Outcome → Grid
grid_told t = record { kind = kind_of (read_kind t.third); rows = t.first; columns = t.second }

pub grid-told : (g : Grid) → grid_told (grid_answer g) ≡ g
grid-told g = λ i. record { kind = by g.kind i; rows = g.rows; columns = g.columns }
  where
    by : (k : Kind) → kind_of (read_kind (kind_number k)) ≡ k
    by One = refl
    by Two = refl
    by Three = refl

pub readings : OneToOne parsed_outcome
readings = record { from = from; back = back }
  where
    from : Outcome → Result Grid RecordRefusal
    from t = cond (eqb t.number 0) (Ok (grid_told t)) (Err (record_refusals.from t))

    back : (p : Result Grid RecordRefusal) → from (parsed_outcome p) ≡ p
    back (Ok g) = ap Ok (grid-told g)
    back (Err r) = rw (number-eqb record_numbers r {n = 0} (omega arith)) (ap Err (record_refusals.back r))

-- the rules' are 10 to 15
pub rule_numbers : Between rule_refusal_outcome 10 15
rule_numbers = record { bounds = by }
  where
    by : (r : RuleRefusal) → (10 ≤ (rule_refusal_outcome r).number) × ((rule_refusal_outcome r).number ≤ 15)
    by (DrawingByte x) = (omega arith, omega arith)
    by (Touching x) = (omega arith, omega arith)
    by (ClueNotMet x) = (omega arith, omega arith)
    by (LinkUnmatched x) = (omega arith, omega arith)
    by (NotTwoLinks x) = (omega arith, omega arith)
    by (NotOneLoop x) = (omega arith, omega arith)

pub rule_refusals : OneToOne rule_refusal_outcome
rule_refusals = record { from = from; back = back }
  where
    from : Outcome → RuleRefusal
    from t =
        cond (eqb t.number 10) (DrawingByte t.first)
        (cond (eqb t.number 11) (Touching t.first)
        (cond (eqb t.number 12) (ClueNotMet t.first)
        (cond (eqb t.number 13) (LinkUnmatched t.first)
        (cond (eqb t.number 14) (NotTwoLinks t.first)
        (NotOneLoop t.first)))))

    back : (r : RuleRefusal) → from (rule_refusal_outcome r) ≡ r
    back (DrawingByte x) = refl
    back (Touching x) = refl
    back (ClueNotMet x) = refl
    back (LinkUnmatched x) = refl
    back (NotTwoLinks x) = refl
    back (NotOneLoop x) = refl

-- the judge's are all of these, and 7
pub judge_numbers : Between judge_refusal_outcome 1 15
judge_numbers = record { bounds = by }
  where
    by : (r : JudgeRefusal) → (1 ≤ (judge_refusal_outcome r).number) × ((judge_refusal_outcome r).number ≤ 15)
    by (Record r) = let b = record_numbers.bounds r in (b.0, omega arith)
    by DrawingLength = (omega arith, omega arith)
    by (Rule r) = let b = rule_numbers.bounds r in (omega arith, b.1)

pub judge_refusals : OneToOne judge_refusal_outcome
judge_refusals = record { from = from; back = back }
  where
    from : Outcome → JudgeRefusal
    from t = cond (leb t.number 5) (Record (record_refusals.from t)) (cond (leb t.number 7) DrawingLength (Rule (rule_refusals.from t)))

    back : (r : JudgeRefusal) → from (judge_refusal_outcome r) ≡ r
    back (Record r) = rw (number_under record_numbers r {n = 5} (omega arith)) (ap Record (record_refusals.back r))
    back DrawingLength = refl
    back (Rule r) = rw (number_over rule_numbers r {n = 5} (omega arith), number_over rule_numbers r {n = 7} (omega arith)) (ap Rule (rule_refusals.back r))

pub verdicts : OneToOne verdict_outcome
verdicts = record { from = from; back = back }
  where
    from : Outcome → Result Unit JudgeRefusal
    from t = cond (eqb t.number 0) (Ok tt) (Err (judge_refusals.from t))

    back : (v : Result Unit JudgeRefusal) → from (verdict_outcome v) ≡ v
    back (Ok tt) = refl
    back (Err r) = rw (number-eqb judge_numbers r {n = 0} (omega arith)) (ap Err (judge_refusals.back r))
