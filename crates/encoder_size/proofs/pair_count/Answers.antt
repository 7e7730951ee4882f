-- `encoder_size::pair_count` meets its contract. Assumes nothing.
use Rattle.encoder_size.proofs.Lines.{pairs_half}
use Rattle.encoder_size.proofs.pair_count.Goals as goal

pub returns-clause-value : goal.returns-clause-value
returns-clause-value c =
    pairs_half c.args.n
