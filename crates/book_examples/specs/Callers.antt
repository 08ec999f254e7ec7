-- What the callers of the book leave of its rows.
use Rattle.std.specs.Prelude.{ℕ, Bool, true, false, List}
use Rattle.book.specs.Rows.{insert, move_row}
use Rattle.book.specs.declared.row.Row.{Row}

-- the row at its rank, if it went in
abbrev pub placed_if : Bool → Row → List Row → List Row
placed_if true r rs = insert r rs
placed_if false r rs = rs

-- the row n at another display price, if it moved
abbrev pub moved_if : Bool → ℕ → ℕ → ℕ → List Row → List Row
moved_if true n p due rs = move_row n p due rs
moved_if false n p due rs = rs
