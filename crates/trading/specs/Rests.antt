-- What holds of the rows between calls.
use Rattle.std.specs.Prelude.{◌≡◌, ℕ, Bool, true, cond, not, ◌&&◌, List, Some, None, Option, nat_le, nat_lt}
use Rattle.values.specs.Sides.{onward}
use Rattle.book.specs.declared.row.Row.{Row}
use Rattle.book.specs.declared.row.Due.{Due}
use Rattle.book.specs.declared.row.Standing.{Standing}
use Rattle.book.specs.declared.row.Standing.TheVariants.{Plain, Held, Quote}
use Rattle.book.specs.Lists.{every}
use Rattle.book.specs.Rows.{meets, row_of, may_move}
use Rattle.trading.specs.Desks.{second_after}

-- numbers are given from 1 on, and are below the next
abbrev pub below : ℕ → Row → Bool
below next r = nat_lt 0 r.number && nat_lt r.number next

-- q is no contra row within the reach of r, if r is held
abbrev pub clear_by : Standing → Row → Row → Bool
clear_by Plain r q = true
clear_by (Held c m) r q = not (meets r.series r.side (onward r.side r.display c r.limit) q)
clear_by (Quote k) r q = true

-- no row is within the reach of r, if r is held: r has been served
abbrev pub served : List Row → Row → Bool
served rs r = every (clear_by r.standing r) rs

-- a held order falls due after the clock, within a second
abbrev pub timely_by : ℕ → Standing → Bool
timely_by clock Plain = true
timely_by clock (Held c m) = nat_lt clock m && nat_le m (second_after clock)
timely_by clock (Quote k) = true

abbrev pub timely : ℕ → Row → Bool
timely clock r = timely_by clock r.standing

-- a market has at most 64 series
abbrev pub in_series : Row → Bool
in_series r = nat_lt r.series 64

abbrev pub AtRest : ℕ → ℕ → List Row → Type 0
AtRest clock next rs = (every (below next) rs ≡ true) × (every (served rs) rs ≡ true) × (every (timely clock) rs ≡ true)

-- the entry that is due first, if it is due by the moment k
abbrev pub due_by : ℕ → Option Due → Option Due
due_by k None = None
due_by k (Some e) = cond (nat_le e.moment k) (Some e) None

-- the order of the entry may move: it meets no row where it will display
abbrev pub MayMove : Due → List Row → Type 0
MayMove e rs = (r : Row) (c m : ℕ) → row_of e.number rs ≡ Some r → r.standing ≡ Held c m → may_move r.number (onward r.side r.display c r.limit) (second_after e.moment) rs ≡ true
