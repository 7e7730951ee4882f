-- The cursor's answers as what stands at a place.
use Rattle.std.specs.Prelude.{ℕ, Bool, Result, Ok, Err}
use Rattle.dimacs_cursor.specs.declared.Cursor.{Cursor}
use Rattle.dimacs_cursor.specs.declared.BadByte.{BadByte}
use Rattle.dimacs_cursor.specs.declared.Number.{Number}
use Rattle.dimacs_cursor.specs.declared.Header.{Header}
use Rattle.dimacs_cursor.specs.declared.Element.{Element}
use Rattle.dimacs.specs.Reader.{Header as HeaderRead, header_with}
use Rattle.dimacs.specs.Tokens.{TokenAt, stands, refused}

abbrev pub at_passed : Result Cursor BadByte → TokenAt Unit
at_passed (Ok after) = stands tt after.at
at_passed (Err bad) = refused bad.at

abbrev pub at_token : Result Number BadByte → TokenAt ℕ
at_token (Ok n) = stands n.value n.after.at
at_token (Err bad) = refused bad.at

abbrev pub at_head : Result Header BadByte → TokenAt HeaderRead
at_head (Ok h) = stands (header_with h.variables h.clauses) h.after.at
at_head (Err bad) = refused bad.at

abbrev pub at_element : Result Element BadByte → TokenAt (Bool × ℕ)
at_element (Ok e) = stands (e.negative, e.number) e.after.at
at_element (Err bad) = refused bad.at
