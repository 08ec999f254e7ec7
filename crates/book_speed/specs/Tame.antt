-- Rows that never cross: plain orders, bids below 1,000 cents and offers from 2,000 cents on.
use Rattle.std.specs.Prelude.{◌≡◌, ℕ, Bool, true, false, ◌&&◌, List, nat_le, nat_lt}
use Rattle.values.specs.declared.side.Side.{Side}
use Rattle.values.specs.declared.side.Side.TheVariants.{Buy, Sell}
use Rattle.book.specs.declared.row.Row.{Row}
use Rattle.book.specs.declared.row.Standing.{Standing}
use Rattle.book.specs.declared.row.Standing.TheVariants.{Plain, Held, Quote}
use Rattle.book.specs.Lists.{every}
use Rattle.book.specs.Rows.{sized}

abbrev pub is_plain : Standing → Bool
is_plain Plain = true
is_plain (Held c d) = false
is_plain (Quote m) = false

abbrev pub apart : Side → ℕ → Bool
apart Buy p = nat_lt p 1000
apart Sell p = nat_le 2000 p

abbrev pub tame : Row → Bool
tame r = is_plain r.standing && apart r.side r.display

-- every row is tame and has a number below n
abbrev pub Tame : ℕ → List Row → Type 0
Tame n rs = every (λ r. nat_lt r.number n && tame r) rs ≡ true

-- a tame row with a number and a size
abbrev pub Drawn : ℕ → Row → Type 0
Drawn n r = (r.number ≡ n) × (tame r ≡ true) × (sized r ≡ true)
