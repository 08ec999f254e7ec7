-- What is done in a pit, by what it does to the desk.
use Rattle.std.specs.Prelude.{◌≡◌, List}
use Rattle.std.specs.Borrow.{MutBor}
use Rattle.rolls.specs.declared.roll.Roll.{Roll}
use Rattle.book.specs.declared.book.Book.{Book}
use Rattle.book.specs.declared.row.Row.{Row}
use Rattle.book.specs.declared.row.Trade.{Trade}
use Rattle.book.specs.Books.{rows}
use Rattle.trading.specs.declared.pit.Pit.{Pit}
use Rattle.trading.specs.Desks.{Desk}
use Rattle.trading.specs.Doing.{desk, Trading}

abbrev pub rows_in : Pit → List Row
rows_in p = rows p.book.now

-- the desk as a call begins in the pit
abbrev pub desk_in : Pit → Desk
desk_in p = desk (rows_in p)

-- an operation that trades, over one book and one roll
pub record Dealing (book₀ book : MutBor Book) (roll₀ roll : MutBor (Roll Trade)) (d : Desk) : Type 0 where
  pub did : Trading (rows book.now) roll₀.now roll.now d
  pub same_book : book.ghost_name ≡ book₀.ghost_name
  pub same_roll : roll.ghost_name ≡ roll₀.ghost_name

-- an operation that trades in a pit
abbrev pub Deals : Pit → Pit → Desk → Type 0
Deals before after d = Dealing before.book after.book before.trades after.trades d
