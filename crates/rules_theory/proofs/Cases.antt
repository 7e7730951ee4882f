-- The cases of the record reader, computed.
use mathlib.Core.Path.{◌≡◌, refl}
use mathlib.Core.List.{map}
use Rattle.answers.specs.First.{first_from}
use Rattle.rules.specs.Record.{record_answer}
use Rattle.rules_theory.specs.Cases.{ReaderCase, reader_cases, kind_cases, shaded_cases}

pub reader_cases_hold : map (λ (c : ReaderCase). record_answer c.bytes) reader_cases ≡ map (λ (c : ReaderCase). c.says) reader_cases
unfolding first_from
reader_cases_hold = refl

pub kind_cases_hold : map (λ (c : ReaderCase). record_answer c.bytes) kind_cases ≡ map (λ (c : ReaderCase). c.says) kind_cases
unfolding first_from
kind_cases_hold = refl

pub shaded_cases_hold : map (λ (c : ReaderCase). record_answer c.bytes) shaded_cases ≡ map (λ (c : ReaderCase). c.says) shaded_cases
unfolding first_from
shaded_cases_hold = refl
