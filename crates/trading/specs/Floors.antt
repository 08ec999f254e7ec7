-- What a floor holds.
use Rattle.std.specs.Prelude.{◌≡◌, ℕ, List}
use Rattle.book.specs.declared.row.Row.{Row}
use Rattle.book.specs.Books.{rows}
use Rattle.trading.specs.declared.floor.Floor.{Floor}

abbrev pub rows_on : Floor → List Row
rows_on f = rows f.book

-- an operation leaves the clock and the next number so
pub record Leaves (after : Floor) (clock next : ℕ) : Type 0 where
  pub clocked : after.clock ≡ clock
  pub numbered : after.next ≡ next
