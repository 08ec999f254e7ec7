-- What a check answers, by its tests.
use Rattle.std.specs.Prelude.{Bool, List, Some, None, Ok, Err, Option, Result}
use Rattle.values.specs.declared.refusal.Refusal.{Refusal}
use Rattle.market.specs.Tests.{first}

abbrev pub answering : Option Refusal → Result Unit Refusal
answering None = Ok tt
answering (Some e) = Err e

-- the first test that is met refuses
abbrev pub checked : List (Bool × Refusal) → Result Unit Refusal
checked ts = answering (first ts)
