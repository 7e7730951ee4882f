-- What the program prints fits 65,536 bytes. Assumes nothing.
use Prim.Native.Nat.{ℕ, suc, ◌*◌, ◌≤◌}
use native.Mathlib.Omega.{arith}
use lib.IntN.{ℤ, pos, negsuc, nat_abs}
use lib.ListN.{length, length-append}
use mathlib.Core.Path.{◌≡◌}
use mathlib.Core.List.{List, [], ◌∷◌}
use Rattle.answers.specs.Lists.{All}
use Rattle.answers.proofs.Lists.{many_most}
use Rattle.rules.specs.Board.{board_of}
use Rattle.rules.proofs.Records.{accepted_laws}
use Rattle.cnf.specs.Literals.{closes}
use Rattle.cnf.specs.Clauses.{clause_count}
use Rattle.dimacs.specs.Text.{signed, behind, lines, header_line, text_of}
use Rattle.text.proofs.Decimals.{digits_few}
use Rattle.dimacs_writer.proofs.Lines.{header_length}
use Rattle.encoder.specs.Variables.{variable_count}
use Rattle.encoder.specs.Clauses.{clause_list}
use Rattle.encoder.specs.Bounds.{NotBeyond}
use Rattle.encoder.proofs.Bounds.{list_not_beyond}
use Rattle.program_text.specs.Programs.{element_limit, variable_limit, program_number, printed_clauses}
use Rattle.program_text.proofs.Limits.{unrefused, printed_fits}

-- at most a sign, four digits and the byte behind them
signed_short : (l : ℤ) → nat_abs l ≤ variable_limit → length (signed l) ≤ 5
signed_short (pos n) h = let d = digits_few 3 n (omega arith) in omega arith
signed_short (negsuc n) h = let d = digits_few 3 (suc n) (omega arith) in omega arith

lines_short : (v : ℕ) (ls : List ℤ) → v ≤ variable_limit → All (NotBeyond v) ls → length (lines ls) ≤ length ls * 6
unfolding lines
lines_short v [] few h = omega arith
lines_short v (l ∷ ls) few h =
    let r = h.0 in
    let s = signed_short l (omega arith) in
    let a = length-append (signed l) (behind l ∷ lines ls) in
    let i = lines_short v ls few h.1 in
    omega arith

text_short : (v : ℕ) (ls : List ℤ) → v ≤ variable_limit → length ls ≤ element_limit → All (NotBeyond v) ls → length (text_of v ls) ≤ 65536
text_short v ls few short h =
    let a = length-append (header_line v (clause_count ls)) (lines ls) in
    let m = many_most closes ls in
    let c = digits_few 3 (clause_count ls) (omega arith) in
    let d = digits_few 3 v (omega arith) in
    omega (arith, header_length v (clause_count ls), lines_short v ls few h)

-- a grid that needs no more than the program holds
pub text_fits : (s : List ℕ) → program_number s ≡ 0 → length (text_of (variable_count (board_of s)) (clause_list (board_of s))) ≤ 65536
text_fits s e =
    let (a, short, few) = unrefused s e in
    text_short (variable_count (board_of s)) (clause_list (board_of s)) few short (list_not_beyond (board_of s) (accepted_laws s a))

pub clauses_fit : (s : List ℕ) → length (printed_clauses s) ≤ 65536
clauses_fit s = printed_fits s _ 65536 (omega arith) (text_fits s)
