-- The lists that stand in the slots of rows and of due entries.
use Rattle.std.specs.Prelude.{List, take}
use Rattle.book.specs.declared.row.Row.{Row}
use Rattle.book.specs.declared.row.Due.{Due}
use Rattle.book.specs.declared.resting.Rows.{Rows}
use Rattle.book.specs.declared.awaiting.Dues.{Dues}

-- the rows, in their order
abbrev pub ranked : Rows → List Row
ranked b = take b.count b.slots

-- the due entries, the soonest first
abbrev pub waiting : Dues → List Due
waiting b = take b.count b.slots
