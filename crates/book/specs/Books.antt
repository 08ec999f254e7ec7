-- What a book holds: its rows and its due list.
use Rattle.std.specs.Prelude.{List}
use Rattle.book.specs.declared.row.Row.{Row}
use Rattle.book.specs.declared.row.Due.{Due}
use Rattle.book.specs.declared.book.Book.{Book}
use Rattle.book.specs.Listings.{ranked, waiting}

-- the rows that rest, in their order
abbrev pub rows : Book → List Row
rows b = ranked b.resting

-- the due list, the soonest entry first
abbrev pub dues : Book → List Due
dues b = waiting b.awaiting
