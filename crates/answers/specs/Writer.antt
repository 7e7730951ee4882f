-- What is put into a lent buffer.
use Rattle.std.specs.Prelude.{◌≡◌, ◌+◌, length, List}
use Rattle.std.proofs.lemmas.List.Edits.{sets}
use Rattle.answers.specs.declared.Writer.{Writer}

-- the elements stand from the old place on, in the same buffer; those beyond its end are left out and counted all the same
pub record Puts {A : Type 0} (old : Writer A) (xs : List A) (new : Writer A) : Type 0 where
  pub same_buffer : new.buffer.ghost_name ≡ old.buffer.ghost_name
  pub place : new.place ≡ old.place + length xs
  pub holds : new.buffer.now ≡ sets old.buffer.now old.place xs
