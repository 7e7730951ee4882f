-- The starred cases of document 01's "Grids to try" that concern the record reader, with those of kind 2 beside them: records, and what it tells of each.
-- Then records that tell the kinds apart, and such as have shaded cells.
use Rattle.std.specs.Prelude.{ℕ, ◌+◌, ◌*◌, length, replicate, List, [], ◌∷◌}
use Rattle.answers.specs.declared.Outcome.{Outcome}
use Rattle.answers.specs.Outcome.{refusal, answer}

pub record ReaderCase : Type 0 where
  pub bytes : List ℕ
  pub says : Outcome

-- a record of a kind with these sides and the bytes of its cells; its length is below 256
abbrev record_of : ℕ → ℕ → ℕ → List ℕ → List ℕ
record_of kind rows columns cells = (6 + length cells) ∷ 0 ∷ kind ∷ 0 ∷ rows ∷ columns ∷ cells

-- open cells only, of so many bytes each
abbrev open_record : ℕ → ℕ → ℕ → ℕ → List ℕ
open_record kind bytes rows columns = record_of kind rows columns (replicate (bytes * (rows * columns)) 0)

-- 0x0F and 0x51 are refused as 5 (document 01 has 0x50, which document 02's E5 lets in), sides 0 and 25 as 3, for rows and for columns; in kind 2 sides 0
-- and 46
abbrev pub reader_cases : List ReaderCase
reader_cases =
    record { bytes = record_of 1 1 1 (0x0F ∷ []); says = refusal 5 0 } ∷
    record { bytes = record_of 1 1 1 (0x51 ∷ []); says = refusal 5 0 } ∷
    record { bytes = open_record 1 1 0 1; says = refusal 3 0 } ∷
    record { bytes = open_record 1 1 1 0; says = refusal 3 0 } ∷
    record { bytes = open_record 1 1 25 1; says = refusal 3 0 } ∷
    record { bytes = open_record 1 1 1 25; says = refusal 3 0 } ∷
    record { bytes = open_record 2 2 0 1; says = refusal 3 0 } ∷
    record { bytes = open_record 2 2 1 0; says = refusal 3 0 } ∷
    record { bytes = open_record 2 2 46 1; says = refusal 3 0 } ∷
    record { bytes = open_record 2 2 1 46; says = refusal 3 0 } ∷
    []

-- kinds 0, 4 and 256 are refused; in kind 2, sides 25 and 45 are accepted; a length of 6 + N is refused; codes 0x1000 and 0x102C are allowed, 0x102D
-- is not, and 0x0001 in the second cell is refused beside 1; the bytes `10 00` are 0x0010, which is not allowed; in kind 3 side 24 is accepted and 25 refused,
-- as are a length of 6 + 2N and 0x51
abbrev pub kind_cases : List ReaderCase
kind_cases =
    record { bytes = record_of 0 1 1 (0 ∷ []); says = refusal 2 0 } ∷
    record { bytes = record_of 4 1 1 (0 ∷ []); says = refusal 2 0 } ∷
    record { bytes = 7 ∷ 0 ∷ 0 ∷ 1 ∷ 1 ∷ 1 ∷ 0 ∷ []; says = refusal 2 0 } ∷
    record { bytes = open_record 2 2 25 1; says = answer 25 1 2 } ∷
    record { bytes = open_record 2 2 1 45; says = answer 1 45 2 } ∷
    record { bytes = open_record 2 1 1 1; says = refusal 4 0 } ∷
    record { bytes = record_of 2 1 1 (0x00 ∷ 0x10 ∷ []); says = answer 1 1 2 } ∷
    record { bytes = record_of 2 1 1 (0x2C ∷ 0x10 ∷ []); says = answer 1 1 2 } ∷
    record { bytes = record_of 2 1 1 (0x2D ∷ 0x10 ∷ []); says = refusal 5 0 } ∷
    record { bytes = record_of 2 1 2 (0 ∷ 0 ∷ 1 ∷ 0 ∷ []); says = refusal 5 1 } ∷
    record { bytes = record_of 2 1 1 (0x10 ∷ 0x00 ∷ []); says = refusal 5 0 } ∷
    record { bytes = open_record 3 1 24 1; says = answer 24 1 3 } ∷
    record { bytes = open_record 3 1 25 1; says = refusal 3 0 } ∷
    record { bytes = open_record 3 2 1 1; says = refusal 4 0 } ∷
    record { bytes = record_of 3 1 2 (0x4F ∷ 0x51 ∷ []); says = refusal 5 1 } ∷
    []

-- in kind 1 0x50 is allowed, as in kind 3, and 0x5F (as 0x51 above) is not; in kind 2 0x5000 is allowed, 0x5001 and 0x5FFF are not; the bytes `50 00` are
-- 0x0050, which is not allowed
abbrev pub shaded_cases : List ReaderCase
shaded_cases =
    record { bytes = record_of 1 1 1 (0x50 ∷ []); says = answer 1 1 1 } ∷
    record { bytes = record_of 3 1 1 (0x50 ∷ []); says = answer 1 1 3 } ∷
    record { bytes = record_of 1 1 2 (0x50 ∷ 0x5F ∷ []); says = refusal 5 1 } ∷
    record { bytes = record_of 2 1 1 (0x00 ∷ 0x50 ∷ []); says = answer 1 1 2 } ∷
    record { bytes = record_of 2 1 1 (0x01 ∷ 0x50 ∷ []); says = refusal 5 0 } ∷
    record { bytes = record_of 2 1 1 (0xFF ∷ 0x5F ∷ []); says = refusal 5 0 } ∷
    record { bytes = record_of 2 1 1 (0x50 ∷ 0x00 ∷ []); says = refusal 5 0 } ∷
    []
