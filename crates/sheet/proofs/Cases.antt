-- The three sheets, computed. Assumes nothing.
use mathlib.Core.Path.{refl}
use Rattle.answers.specs.First.{first_from}
use Rattle.answers.specs.Lists.{All}
use Rattle.text.specs.Decimal.{decimal_in}
use Rattle.rules.specs.Board.{outward}
use Rattle.rules.specs.Walk.{around, among}
use Rattle.sheet.specs.Sheet.{sheet_text}
use Rattle.sheet.specs.Cases.{CaseHolds, sheet_cases}

pub cases_hold : All CaseHolds sheet_cases
unfolding first_from outward around among decimal_in sheet_text
cases_hold =
    (record { outcome = refl; left = refl }, (record { outcome = refl; left = refl }, (record { outcome = refl; left = refl }, tt)))
