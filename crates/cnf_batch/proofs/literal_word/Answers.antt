-- `cnf_batch::literal_word` meets its contract. Assumes nothing.
use Prim.Native.Nat.{ℕ, ◌-◌, ◌/◌, ◌^◌, ◌<◌}
use lib.IntN.{ℤ, pos}
use lib.ListN.{get_or}
use mathlib.Core.List.{List}
use Rattle.cnf_batch.proofs.LiteralWords.{word_plain, word-not}
use Rattle.cnf_batch.proofs.literal_word.Goals as goal

pub returns-then-k-eq0 : goal.returns-then-k-eq0
returns-then-k-eq0 c =
    let ws : List ℕ = c.args.words.now in
    let lit : ℤ = get_or c.args.list.now c.args.i (pos 0) in
    let code : ℕ = c.code_at-k.result in
    let small : get_or ws (code / 2 - 1) 0 < 2 ^ 64 = (c.type_inv.words (code / 2 - 1)).fits in
    word_plain ws code small lit c.code_at-k.ensures c.requires.pos_value.0 c.if-k-eq0.true

pub returns-else-k-eq0 : goal.returns-else-k-eq0
returns-else-k-eq0 c =
    let ws : List ℕ = c.args.words.now in
    let lit : ℤ = get_or c.args.list.now c.args.i (pos 0) in
    let code : ℕ = c.code_at-k.result in
    let small : get_or ws (code / 2 - 1) 0 < 2 ^ 64 = (c.type_inv.words (code / 2 - 1)).fits in
    word-not ws code small lit c.code_at-k.ensures c.if-k-eq0.false
