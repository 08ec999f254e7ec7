-- A trade between a taker and a resting row.
use Rattle.std.specs.Prelude.{ℕ}
use Rattle.book.specs.declared.row.Row.{Row}
use Rattle.book.specs.declared.row.Taker.{Taker}
use Rattle.book.specs.declared.row.Trade.{Trade}

-- q contracts at the display price of the resting row
abbrev pub trade_with : Taker → ℕ → Row → Trade
trade_with t q r = record { series = r.series; price = r.display; size = q; taker = t.number; resting = r.number }
