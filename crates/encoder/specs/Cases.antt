-- Cases of the encoder: document 01's starred grids, one with a clue on a clue's line, three with shaded cells and two of kind 3, and what is expected of
-- each. The lists are written out, not computed.
use Rattle.std.specs.Prelude.{ℕ, ℤ, pos, negsuc, length, replicate, List, [], ◌∷◌}
use Rattle.answers.specs.declared.Outcome.{Outcome}
use Rattle.answers.specs.Outcome.{answer}
use Rattle.encoder.specs.Encoding.{encoder_answer, encoder_leaves}

-- a record; elements, V and clauses; the list
pub record Case : Type 0 where
  pub bytes : List ℕ
  pub outcome : Outcome
  pub list : List ℤ

-- the list of the open 2×2 grid
abbrev square_list : List ℤ
square_list = negsuc 0 ∷ negsuc 1 ∷ pos 0 ∷ negsuc 0 ∷
    negsuc 2 ∷ pos 0 ∷ negsuc 1 ∷ negsuc 3 ∷ pos 0 ∷ negsuc 2 ∷ negsuc 3 ∷ pos 0 ∷ negsuc 8 ∷ negsuc 0 ∷ pos 0 ∷ negsuc 8 ∷ negsuc 1 ∷ pos 0 ∷
    negsuc 9 ∷ negsuc 0 ∷ pos 0 ∷ negsuc 9 ∷ negsuc 2 ∷ pos 0 ∷ pos 1 ∷ pos 9 ∷ pos 10 ∷ pos 0 ∷ negsuc 8 ∷ negsuc 9 ∷ pos 0 ∷ pos 1 ∷ pos 12 ∷
    pos 13 ∷ pos 0 ∷ negsuc 11 ∷ negsuc 12 ∷ pos 0 ∷ negsuc 8 ∷ negsuc 11 ∷ pos 0 ∷ negsuc 9 ∷ negsuc 12 ∷ pos 0 ∷ negsuc 10 ∷ negsuc 1 ∷ pos 0 ∷
    negsuc 10 ∷ negsuc 3 ∷ pos 0 ∷ negsuc 11 ∷ negsuc 1 ∷ pos 0 ∷ negsuc 11 ∷ negsuc 0 ∷ pos 0 ∷ pos 2 ∷ pos 11 ∷ pos 12 ∷ pos 0 ∷ negsuc 10 ∷
    negsuc 11 ∷ pos 0 ∷ pos 2 ∷ pos 15 ∷ pos 9 ∷ pos 0 ∷ negsuc 14 ∷ negsuc 8 ∷ pos 0 ∷ negsuc 10 ∷ negsuc 14 ∷ pos 0 ∷ negsuc 12 ∷ negsuc 2 ∷
    pos 0 ∷ negsuc 12 ∷ negsuc 0 ∷ pos 0 ∷ negsuc 13 ∷ negsuc 2 ∷ pos 0 ∷ negsuc 13 ∷ negsuc 3 ∷ pos 0 ∷ pos 3 ∷ pos 13 ∷ pos 14 ∷ pos 0 ∷
    negsuc 12 ∷ negsuc 13 ∷ pos 0 ∷ pos 3 ∷ pos 10 ∷ pos 16 ∷ pos 0 ∷ negsuc 9 ∷ negsuc 15 ∷ pos 0 ∷ negsuc 13 ∷ negsuc 15 ∷ pos 0 ∷ negsuc 14 ∷
    negsuc 3 ∷ pos 0 ∷ negsuc 14 ∷ negsuc 1 ∷ pos 0 ∷ negsuc 15 ∷ negsuc 3 ∷ pos 0 ∷ negsuc 15 ∷ negsuc 2 ∷ pos 0 ∷ pos 4 ∷ pos 15 ∷ pos 16 ∷ pos 0 ∷
    negsuc 14 ∷ negsuc 15 ∷ pos 0 ∷ pos 4 ∷ pos 11 ∷ pos 14 ∷ pos 0 ∷ negsuc 10 ∷ negsuc 13 ∷ pos 0 ∷ pos 5 ∷ pos 6 ∷ pos 7 ∷ pos 8 ∷ pos 0 ∷
    negsuc 4 ∷ negsuc 0 ∷ pos 0 ∷ negsuc 4 ∷ pos 9 ∷ pos 0 ∷ negsuc 5 ∷ negsuc 1 ∷ pos 0 ∷ negsuc 5 ∷ pos 1 ∷ pos 0 ∷ negsuc 5 ∷ pos 0 ∷ negsuc 6 ∷
    negsuc 2 ∷ pos 0 ∷ negsuc 6 ∷ pos 1 ∷ pos 0 ∷ negsuc 6 ∷ pos 2 ∷ pos 0 ∷ negsuc 6 ∷ pos 14 ∷ pos 0 ∷ negsuc 7 ∷ negsuc 3 ∷ pos 0 ∷ negsuc 7 ∷
    pos 1 ∷ pos 0 ∷ negsuc 7 ∷ pos 2 ∷ pos 0 ∷ negsuc 7 ∷ pos 3 ∷ pos 0 ∷ negsuc 7 ∷ pos 0 ∷ pos 1 ∷ pos 17 ∷ pos 18 ∷ pos 19 ∷ pos 20 ∷ pos 0 ∷
    negsuc 0 ∷ negsuc 16 ∷ pos 0 ∷ negsuc 0 ∷ negsuc 17 ∷ pos 0 ∷ negsuc 0 ∷ negsuc 18 ∷ pos 0 ∷ negsuc 0 ∷ negsuc 19 ∷ pos 0 ∷ negsuc 4 ∷ pos 17 ∷
    pos 0 ∷ pos 5 ∷ negsuc 16 ∷ pos 0 ∷ negsuc 4 ∷ negsuc 17 ∷ pos 0 ∷ negsuc 4 ∷ negsuc 18 ∷ pos 0 ∷ negsuc 4 ∷ negsuc 19 ∷ pos 0 ∷ negsuc 8 ∷
    negsuc 17 ∷ pos 21 ∷ pos 0 ∷ negsuc 8 ∷ negsuc 18 ∷ pos 22 ∷ pos 0 ∷ negsuc 8 ∷ negsuc 19 ∷ pos 23 ∷ pos 0 ∷ negsuc 9 ∷ negsuc 17 ∷ pos 25 ∷
    pos 0 ∷ negsuc 9 ∷ negsuc 18 ∷ pos 26 ∷ pos 0 ∷ negsuc 9 ∷ negsuc 19 ∷ pos 27 ∷ pos 0 ∷ pos 2 ∷ pos 21 ∷ pos 22 ∷ pos 23 ∷ pos 24 ∷ pos 0 ∷
    negsuc 1 ∷ negsuc 20 ∷ pos 0 ∷ negsuc 1 ∷ negsuc 21 ∷ pos 0 ∷ negsuc 1 ∷ negsuc 22 ∷ pos 0 ∷ negsuc 1 ∷ negsuc 23 ∷ pos 0 ∷ negsuc 5 ∷ pos 21 ∷
    pos 0 ∷ pos 6 ∷ negsuc 20 ∷ pos 0 ∷ negsuc 5 ∷ negsuc 21 ∷ pos 0 ∷ negsuc 5 ∷ negsuc 22 ∷ pos 0 ∷ negsuc 5 ∷ negsuc 23 ∷ pos 0 ∷ negsuc 10 ∷
    negsuc 21 ∷ pos 29 ∷ pos 0 ∷ negsuc 10 ∷ negsuc 22 ∷ pos 30 ∷ pos 0 ∷ negsuc 10 ∷ negsuc 23 ∷ pos 31 ∷ pos 0 ∷ negsuc 11 ∷ negsuc 21 ∷ pos 17 ∷
    pos 0 ∷ negsuc 11 ∷ negsuc 22 ∷ pos 18 ∷ pos 0 ∷ negsuc 11 ∷ negsuc 23 ∷ pos 19 ∷ pos 0 ∷ pos 3 ∷ pos 25 ∷ pos 26 ∷ pos 27 ∷ pos 28 ∷ pos 0 ∷
    negsuc 2 ∷ negsuc 24 ∷ pos 0 ∷ negsuc 2 ∷ negsuc 25 ∷ pos 0 ∷ negsuc 2 ∷ negsuc 26 ∷ pos 0 ∷ negsuc 2 ∷ negsuc 27 ∷ pos 0 ∷ negsuc 6 ∷ pos 25 ∷
    pos 0 ∷ pos 7 ∷ negsuc 24 ∷ pos 0 ∷ negsuc 6 ∷ negsuc 25 ∷ pos 0 ∷ negsuc 6 ∷ negsuc 26 ∷ pos 0 ∷ negsuc 6 ∷ negsuc 27 ∷ pos 0 ∷ negsuc 12 ∷
    negsuc 25 ∷ pos 17 ∷ pos 0 ∷ negsuc 12 ∷ negsuc 26 ∷ pos 18 ∷ pos 0 ∷ negsuc 12 ∷ negsuc 27 ∷ pos 19 ∷ pos 0 ∷ negsuc 13 ∷ negsuc 25 ∷ pos 29 ∷
    pos 0 ∷ negsuc 13 ∷ negsuc 26 ∷ pos 30 ∷ pos 0 ∷ negsuc 13 ∷ negsuc 27 ∷ pos 31 ∷ pos 0 ∷ pos 4 ∷ pos 29 ∷ pos 30 ∷ pos 31 ∷ pos 32 ∷ pos 0 ∷
    negsuc 3 ∷ negsuc 28 ∷ pos 0 ∷ negsuc 3 ∷ negsuc 29 ∷ pos 0 ∷ negsuc 3 ∷ negsuc 30 ∷ pos 0 ∷ negsuc 3 ∷ negsuc 31 ∷ pos 0 ∷ negsuc 7 ∷ pos 29 ∷
    pos 0 ∷ pos 8 ∷ negsuc 28 ∷ pos 0 ∷ negsuc 7 ∷ negsuc 29 ∷ pos 0 ∷ negsuc 7 ∷ negsuc 30 ∷ pos 0 ∷ negsuc 7 ∷ negsuc 31 ∷ pos 0 ∷ negsuc 14 ∷
    negsuc 29 ∷ pos 21 ∷ pos 0 ∷ negsuc 14 ∷ negsuc 30 ∷ pos 22 ∷ pos 0 ∷ negsuc 14 ∷ negsuc 31 ∷ pos 23 ∷ pos 0 ∷ negsuc 15 ∷ negsuc 29 ∷ pos 25 ∷
    pos 0 ∷ negsuc 15 ∷ negsuc 30 ∷ pos 26 ∷ pos 0 ∷ negsuc 15 ∷ negsuc 31 ∷ pos 27 ∷ pos 0 ∷ []

-- the list of 1×3 with a clue to the east with number 0, shaded, open
abbrev past_shaded : List ℤ
past_shaded = pos 4 ∷ pos 0 ∷ negsuc 3 ∷ pos 1 ∷ pos 5 ∷ pos 0 ∷ negsuc 3 ∷ negsuc 0 ∷ pos 0 ∷ negsuc 4 ∷ pos 6 ∷ pos 0 ∷ pos 6 ∷ pos 0 ∷ pos 1 ∷
    pos 0 ∷ pos 1 ∷ pos 0 ∷ pos 2 ∷ pos 0 ∷ negsuc 1 ∷ negsuc 0 ∷ pos 0 ∷ negsuc 1 ∷ pos 0 ∷ pos 1 ∷ pos 3 ∷ pos 0 ∷ negsuc 0 ∷ negsuc 2 ∷
    pos 0 ∷ negsuc 1 ∷ pos 3 ∷ pos 0 ∷ pos 2 ∷ negsuc 2 ∷ pos 0 ∷ []

abbrev pub cases : List Case
cases =
    -- 1×1 open
    record {
      bytes = 7 ∷ 0 ∷ 1 ∷ 0 ∷ 1 ∷ 1 ∷ 0 ∷ [];
      outcome = answer 23 3 9;
      list = pos 1 ∷ pos 0 ∷ pos 1 ∷ pos 0 ∷ pos 2 ∷ pos 0 ∷ negsuc 1 ∷
          negsuc 0 ∷ pos 0 ∷ negsuc 1 ∷ pos 0 ∷ pos 1 ∷ pos 3 ∷ pos 0 ∷ negsuc 0 ∷ negsuc 2 ∷ pos 0 ∷ negsuc 1 ∷ pos 3 ∷ pos 0 ∷ pos 2 ∷ negsuc 2 ∷ pos 0 ∷
          [];
    } ∷
    -- 1×1 with 0x10
    record { bytes = 7 ∷ 0 ∷ 1 ∷ 0 ∷ 1 ∷ 1 ∷ 16 ∷ []; outcome = answer 5 1 3; list = pos 1 ∷ pos 0 ∷ pos 1 ∷ pos 0 ∷ pos 0 ∷ [] } ∷
    -- 1×1 with 0x11
    record { bytes = 7 ∷ 0 ∷ 1 ∷ 0 ∷ 1 ∷ 1 ∷ 17 ∷ []; outcome = answer 7 2 4; list = pos 1 ∷ pos 0 ∷ negsuc 1 ∷ pos 0 ∷ pos 2 ∷ pos 0 ∷ pos 0 ∷ [] } ∷
    -- 1×2 open
    record {
      bytes = 8 ∷ 0 ∷ 1 ∷ 0 ∷ 1 ∷ 2 ∷ 0 ∷ 0 ∷ [];
      outcome = answer 93 10 30;
      list = negsuc 0 ∷ negsuc 1 ∷ pos 0 ∷ negsuc 4 ∷ negsuc 0 ∷ pos 0 ∷
          negsuc 4 ∷ negsuc 1 ∷ pos 0 ∷ pos 1 ∷ pos 5 ∷ pos 0 ∷ pos 1 ∷ pos 6 ∷ pos 0 ∷ negsuc 4 ∷ negsuc 5 ∷ pos 0 ∷ negsuc 5 ∷ negsuc 1 ∷ pos 0 ∷
          negsuc 5 ∷ negsuc 0 ∷ pos 0 ∷ pos 2 ∷ pos 6 ∷ pos 0 ∷ pos 2 ∷ pos 5 ∷ pos 0 ∷ pos 3 ∷ pos 4 ∷ pos 0 ∷ negsuc 2 ∷ negsuc 0 ∷ pos 0 ∷ negsuc 2 ∷
          pos 5 ∷ pos 0 ∷ negsuc 3 ∷ negsuc 1 ∷ pos 0 ∷ negsuc 3 ∷ pos 1 ∷ pos 0 ∷ negsuc 3 ∷ pos 0 ∷ pos 1 ∷ pos 7 ∷ pos 8 ∷ pos 0 ∷ negsuc 0 ∷ negsuc 6 ∷
          pos 0 ∷ negsuc 0 ∷ negsuc 7 ∷ pos 0 ∷ negsuc 2 ∷ pos 7 ∷ pos 0 ∷ pos 3 ∷ negsuc 6 ∷ pos 0 ∷ negsuc 2 ∷ negsuc 7 ∷ pos 0 ∷ negsuc 4 ∷ negsuc 7 ∷
          pos 9 ∷ pos 0 ∷ pos 2 ∷ pos 9 ∷ pos 10 ∷ pos 0 ∷ negsuc 1 ∷ negsuc 8 ∷ pos 0 ∷ negsuc 1 ∷ negsuc 9 ∷ pos 0 ∷ negsuc 3 ∷ pos 9 ∷ pos 0 ∷ pos 4 ∷
          negsuc 8 ∷ pos 0 ∷ negsuc 3 ∷ negsuc 9 ∷ pos 0 ∷ negsuc 5 ∷ negsuc 9 ∷ pos 7 ∷ pos 0 ∷ [];
    } ∷
    -- 2×2 open
    record {
      bytes = 10 ∷ 0 ∷ 1 ∷ 0 ∷ 2 ∷ 2 ∷ 0 ∷ 0 ∷ 0 ∷ 0 ∷ [];
      outcome = answer 401 32 119;
      list = square_list;
    } ∷
    -- 1×3: a clue to the east with number 1, one to the north with number 0, open
    record {
      bytes = 9 ∷ 0 ∷ 1 ∷ 0 ∷ 1 ∷ 3 ∷ 33 ∷ 16 ∷ 0 ∷ [];
      outcome = answer 60 10 22;
      list = pos 4 ∷ pos 0 ∷ negsuc 4 ∷ pos 0 ∷ negsuc 3 ∷ pos 1 ∷
          pos 6 ∷ pos 0 ∷ negsuc 3 ∷ negsuc 0 ∷ pos 7 ∷ pos 0 ∷ negsuc 4 ∷ pos 1 ∷ pos 7 ∷ pos 0 ∷ negsuc 4 ∷ negsuc 0 ∷ pos 0 ∷ negsuc 5 ∷ negsuc 6 ∷
          pos 0 ∷ negsuc 5 ∷ pos 8 ∷ pos 0 ∷ negsuc 6 ∷ pos 9 ∷ pos 0 ∷ negsuc 7 ∷ negsuc 8 ∷ pos 0 ∷ pos 9 ∷ pos 0 ∷ pos 10 ∷ pos 0 ∷ pos 10 ∷ pos 0 ∷
          pos 1 ∷ pos 0 ∷ pos 1 ∷ pos 0 ∷ pos 2 ∷ pos 0 ∷ negsuc 1 ∷ negsuc 0 ∷ pos 0 ∷ negsuc 1 ∷ pos 0 ∷ pos 1 ∷ pos 3 ∷ pos 0 ∷ negsuc 0 ∷ negsuc 2 ∷
          pos 0 ∷ negsuc 1 ∷ pos 3 ∷ pos 0 ∷ pos 2 ∷ negsuc 2 ∷ pos 0 ∷ [];
    } ∷
    -- 1×1 shaded (document 02, E5): no variable; F = 0 gives an empty clause
    record { bytes = 7 ∷ 0 ∷ 1 ∷ 0 ∷ 1 ∷ 1 ∷ 0x50 ∷ []; outcome = answer 1 0 1; list = pos 0 ∷ [] } ∷
    -- 1×3: a clue to the east with number 0, shaded, open
    record { bytes = 9 ∷ 0 ∷ 1 ∷ 0 ∷ 1 ∷ 3 ∷ 0x20 ∷ 0x50 ∷ 0 ∷ []; outcome = answer 37 6 14; list = past_shaded } ∷
    -- 2×3 with shaded cells in its last column: the list is that of the open 2×2 grid
    record { bytes = 12 ∷ 0 ∷ 1 ∷ 0 ∷ 2 ∷ 3 ∷ 0 ∷ 0 ∷ 0x50 ∷ 0 ∷ 0 ∷ 0x50 ∷ []; outcome = answer 401 32 119; list = square_list } ∷
    -- of kind 3 (document 02, E12): the cells of the sixth case, where the first clue's line is empty
    record {
      bytes = 9 ∷ 0 ∷ 3 ∷ 0 ∷ 1 ∷ 3 ∷ 33 ∷ 16 ∷ 0 ∷ [];
      outcome = answer 33 6 14;
      list = pos 4 ∷ pos 0 ∷ negsuc 4 ∷ pos 0 ∷ pos 5 ∷ pos 0 ∷ pos 6 ∷ pos 0 ∷ pos 6 ∷ pos 0 ∷ pos 1 ∷
          pos 0 ∷ pos 1 ∷ pos 0 ∷ pos 2 ∷ pos 0 ∷ negsuc 1 ∷ negsuc 0 ∷ pos 0 ∷ negsuc 1 ∷ pos 0 ∷ pos 1 ∷ pos 3 ∷ pos 0 ∷ negsuc 0 ∷ negsuc 2 ∷
          pos 0 ∷ negsuc 1 ∷ pos 3 ∷ pos 0 ∷ pos 2 ∷ negsuc 2 ∷ pos 0 ∷ [];
    } ∷
    -- and those of the eighth, with the same list: a shaded cell stops no line
    record { bytes = 9 ∷ 0 ∷ 3 ∷ 0 ∷ 1 ∷ 3 ∷ 0x20 ∷ 0x50 ∷ 0 ∷ []; outcome = answer 37 6 14; list = past_shaded } ∷
    []

-- as many elements as are needed, none of them 0 or a literal of a case
abbrev lent : Case → List ℤ
lent c = replicate (length c.list) (pos 99)

-- the same record, with what the encoder tells and leaves in the lent elements
abbrev pub encodes : Case → Case
encodes c = record { bytes = c.bytes; outcome = encoder_answer c.bytes (lent c); list = encoder_leaves c.bytes (lent c) }
