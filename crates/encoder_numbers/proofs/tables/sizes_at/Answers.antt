-- `encoder_numbers::tables::sizes_at` meets its contract. Assumes nothing.
use native.Mathlib.Omega.{arith}
use mathlib.Core.Path.{refl, ◌∙◌}
use Rattle.rules.specs.Read.{puzzle_on}
use Rattle.encoder_numbers.proofs.Numbers.{open_sizes, shut_sizes, clue-counts, no-counts, counts_few, line_few}
use Rattle.encoder_numbers.proofs.tables.sizes_at.Goals as goal

pub overflow_add-result : goal.overflow_add-result
overflow_add-result c = omega (arith, c.line_end.ensures.cells_value, line_few c.args.board.now.fits c.requires c.in-Clue.d)

pub overflow_mul-result : goal.overflow_mul-result
overflow_mul-result c =
    let counted = clue-counts (puzzle_on c.args.board.now) c.args.x c.in-Clue.ensures c.line_end.ensures.cells_value c.from.ensures in
    omega (arith, counted, counts_few c.args.board.now.fits c.requires)

pub returns-in-Open : goal.returns-in-Open
returns-in-Open c =
    open_sizes c.args.board.now.fits c.requires c.in-Open.ensures refl refl c.neighbour_count.ensures c.default.ensures.1.1

pub returns-in-Clue : goal.returns-in-Clue
returns-in-Clue c =
    let (opens, (links, _)) = c.default-in-Clue.ensures in
    let counted = clue-counts (puzzle_on c.args.board.now) c.args.x c.in-Clue.ensures c.line_end.ensures.cells_value c.from.ensures in
    shut_sizes c.args.board.now.fits c.requires c.in-Clue.ensures refl opens links counted

pub returns-in-Shaded : goal.returns-in-Shaded
returns-in-Shaded c =
    let (opens, (links, counts)) = c.default-in-Shaded.ensures in
    let none = no-counts (puzzle_on c.args.board.now) c.args.x refl c.in-Shaded.ensures in
    shut_sizes c.args.board.now.fits c.requires c.in-Shaded.ensures refl opens links (counts ∙ none)
