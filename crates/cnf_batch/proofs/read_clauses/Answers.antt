-- `cnf_batch::read_clauses` meets its contract: the loop keeps `ClausesRead`. Assumes nothing.
use native.Mathlib.Omega.{arith}
use lib.IntN.{pos}
use lib.ListN.{length, get_or}
use mathlib.Core.Path.{sym, ◌∙◌}
use Rattle.cnf.proofs.Lists.{code_beyond, code_within}
use Rattle.cnf_batch.proofs.OnePass.{read_start, read_beyond, read_close, read_literal, read_unclosed, read_all}
use Rattle.cnf_batch.proofs.read_clauses.Goals.{then-closes_at, else-closes_at}
use Rattle.cnf_batch.proofs.read_clauses.Goals as goal

pub loop-i-init : goal.loop-i-init
loop-i-init c = read_start _ _

pub returns-then-code_at-words : goal.returns-then-code_at-words
returns-then-code_at-words c = read_beyond c.loop-i.invariant (omega arith) (code_beyond _ _ c.code_at.ensures (omega arith))

pub loop-i-preserved : goal.loop-i-preserved
loop-i-preserved c =
    let r = c.loop-i.invariant in
    let within = code_within (length c.args.words.now) (get_or c.args.list.now c.loop-i.i (pos 0)) c.code_at.ensures (omega arith) in
    elim c.if-closes_at.branch [
      | then-closes_at w ↦ rw (w.satisfied-is, w.clause-is) (read_close r (omega arith) within (sym c.closes_at.ensures ∙ w.if-closes_at.true))
      | else-closes_at w ↦
          rw (w.satisfied-is, w.clause-is)
          (read_literal r (omega arith) within (sym c.closes_at.ensures ∙ w.if-closes_at.false) w.literal_word-clause.ensures)
    ]

pub returns-then-is_unclosed : goal.returns-then-is_unclosed
returns-then-is_unclosed c = read_unclosed c.loop-i.invariant (omega arith) (sym c.if-is_unclosed.true ∙ c.is_unclosed.ensures)

pub returns : goal.returns
returns c = read_all c.loop-i.invariant (omega arith) (sym c.if-is_unclosed.false ∙ c.is_unclosed.ensures)
