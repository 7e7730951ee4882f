-- The cases, computed. Assumes nothing.
use mathlib.Core.Path.{refl}
use Rattle.answers.specs.First.{first_from}
use Rattle.answers.specs.Lists.{All}
use Rattle.cnf.specs.Clauses.{split}
use Rattle.cnf_batch.specs.Words.{word_of}
use Rattle.cnf_batch.specs.Cases.{CaseHolds, batch_cases}

pub cases_hold : All CaseHolds batch_cases
unfolding first_from split word_of
cases_hold = (refl, (refl, (refl, (refl, (refl, (refl, (refl, (refl, (refl, (refl, (refl, (refl, tt))))))))))))
