-- Rows in rank, what a list of resting rows always keeps, and what is done to it.
use Rattle.std.specs.Prelude.{◌≡◌, ℕ, zero, suc, ◌-◌, Bool, true, false, cond, not, ◌&&◌, ◌||◌, List, [], ◌∷◌, Some, None, Option, ◌==◌, nat_le, nat_lt}
use Rattle.values.specs.declared.side.Side.{Side}
use Rattle.values.specs.declared.side.Side.TheVariants.{Buy, Sell}
use Rattle.values.specs.Sides.{opposite, no_more_aggressive}
use Rattle.book.specs.declared.row.Row.{Row}
use Rattle.book.specs.declared.row.Standing.{Standing}
use Rattle.book.specs.declared.row.Withdrawal.{Withdrawal}
use Rattle.book.specs.declared.row.Standing.TheVariants.{Plain, Held, Quote}
use Rattle.book.specs.Lists.{found, placed, lacking, every, pairwise}

abbrev pub same_side : Side → Side → Bool
same_side Buy Buy = true
same_side Buy Sell = false
same_side Sell Buy = false
same_side Sell Sell = true

-- a is the better row of two on one side of a series: the more aggressive display price, then the lower number
abbrev pub better : Row → Row → Bool
better a b = not (no_more_aggressive a.side a.display b.display) || (a.display == b.display && nat_lt a.number b.number)

-- the bids of a series stand before its offers
abbrev pub bid_first : Side → Side → Bool
bid_first Buy Buy = false
bid_first Buy Sell = true
bid_first Sell Buy = false
bid_first Sell Sell = false

-- the order of all rows: by series, then by side, then the better one first
abbrev pub precedes : Row → Row → Bool
precedes a b = nat_lt a.series b.series || (a.series == b.series && (bid_first a.side b.side || (same_side a.side b.side && better a b)))

abbrev pub numbered : ℕ → Row → Bool
numbered n r = r.number == n

abbrev pub stands_at : ℕ → Side → Row → Bool
stands_at s side r = r.series == s && same_side r.side side

-- r stands there or comes later
abbrev pub not_before : ℕ → Side → Row → Bool
not_before s side r = nat_lt s r.series || (s == r.series && not (bid_first r.side side))

-- r stands on the contra side of the series s, at a price within the reach p of the side
abbrev pub meets : ℕ → Side → ℕ → Row → Bool
meets s side p r = r.series == s && (same_side r.side (opposite side) && no_more_aggressive side r.display p)

-- a bid at or above an offer of its series
abbrev pub crosses : Row → Row → Bool
crosses a b = meets a.series a.side a.display b

abbrev pub same_maker : Standing → Standing → Bool
same_maker Plain t = false
same_maker (Held c d) t = false
same_maker (Quote m) Plain = false
same_maker (Quote m) (Held c d) = false
same_maker (Quote m) (Quote k) = m == k

-- two quotes of one maker on one side of a series
abbrev pub same_quote : Row → Row → Bool
same_quote a b = stands_at a.series a.side b && same_maker a.standing b.standing

-- two rows may rest together: their numbers differ, neither crosses the other, and they are not two quotes of a maker for one place
abbrev pub agrees : Row → Row → Bool
agrees a b = not (a.number == b.number) && (not (crosses a b) && not (same_quote a b))

-- the same, where a takes the place of the row that has its number
abbrev pub agrees_instead : Row → Row → Bool
agrees_instead a b = numbered a.number b || agrees a b

abbrev pub sized : Row → Bool
sized r = nat_lt 0 r.size

-- what the rows of a book always keep: their order; that each two may rest together; that none is without size
abbrev pub Sound : List Row → Type 0
Sound rs = (pairwise precedes rs ≡ true) × (pairwise agrees rs ≡ true) × (every sized rs ≡ true)

-- ---- what is done to the rows

-- r at its rank
abbrev pub insert : Row → List Row → List Row
insert r rs = placed (precedes r) r rs

abbrev pub without : ℕ → List Row → List Row
without n rs = lacking (numbered n) rs

-- the row with a number
abbrev pub row_of : ℕ → List Row → Option Row
row_of n rs = found (numbered n) rs

-- what is said of a row that is withdrawn: its number and the size left
abbrev pub withdrawal_of : Row → Withdrawal
withdrawal_of r = record { number = r.number; left = r.size }

-- the best row on one side of a series
abbrev pub best_of : ℕ → Side → List Row → Option Row
best_of s side rs = found (stands_at s side) rs

-- a held order is due anew
abbrev pub renewed : ℕ → Standing → Standing
renewed due Plain = Plain
renewed due (Held c d) = Held c due
renewed due (Quote m) = Quote m

-- r with n contracts left, due anew
abbrev pub resized : ℕ → ℕ → Row → Row
resized due n r = record { number = r.number; series = r.series; side = r.side; display = r.display; limit = r.limit; size = n; standing = renewed due r.standing }

-- what is left of r after q contracts traded
abbrev pub left_of : ℕ → ℕ → Row → Option Row
left_of due q r = cond (nat_le r.size q) None (Some (resized due (r.size - q) r))

-- r with n contracts left, before rs; a row without size is no row
abbrev pub put : ℕ → ℕ → Row → List Row → List Row
put due zero r rs = rs
put due (suc n) r rs = resized due (suc n) r ∷ rs

-- r after it traded q contracts, before rs
abbrev pub cut : ℕ → ℕ → Row → List Row → List Row
cut due zero r rs = r ∷ rs
cut due (suc q) r rs = put due (r.size - suc q) r rs

-- the row n after it traded q contracts: a held order is then due at the moment `due`
unfoldable pub settle : ℕ → ℕ → ℕ → List Row → List Row
settle due q n [] = []
settle due q n (r ∷ rs) = cond (numbered n r) (cut due q r rs) (r ∷ settle due q n rs)

-- at its limit a held order becomes plain
abbrev pub once_moved : Bool → ℕ → Standing → Standing
once_moved atLimit due Plain = Plain
once_moved atLimit due (Held c d) = cond atLimit Plain (Held c due)
once_moved atLimit due (Quote m) = Quote m

-- r displayed at p, and due next at the moment `due`
abbrev pub moved_to : ℕ → ℕ → Row → Row
moved_to p due r = record { number = r.number; series = r.series; side = r.side; display = p; limit = r.limit; size = r.size; standing = once_moved (p == r.limit) due r.standing }

abbrev pub moved_in : Option Row → ℕ → ℕ → List Row → List Row
moved_in None p due rs = rs
moved_in (Some r) p due rs = insert (moved_to p due r) (without r.number rs)

-- the row n displayed at p, at its new rank
abbrev pub move_row : ℕ → ℕ → ℕ → List Row → List Row
move_row n p due rs = moved_in (row_of n rs) p due rs

-- the row n may be displayed at p: there it may rest together with every other row
abbrev pub may_move_in : Option Row → ℕ → ℕ → List Row → Bool
may_move_in None p due rs = true
may_move_in (Some r) p due rs = every (agrees_instead (moved_to p due r)) rs

abbrev pub may_move : ℕ → ℕ → ℕ → List Row → Bool
may_move n p due rs = may_move_in (row_of n rs) p due rs

-- ---- the lowest number

abbrev pub lower : Bool → Row → Option Row → Option Row
lower false r o = o
lower true r None = Some r
lower true r (Some q) = Some (cond (nat_lt r.number q.number) r q)

-- of the rows that pass, the one with the lowest number
unfoldable pub lowest : (Row → Bool) → List Row → Option Row
lowest p [] = None
lowest p (r ∷ rs) = lower (p r) r (lowest p rs)

-- a row from the number n on that p wants
abbrev pub wanted_from : (Row → Bool) → ℕ → Row → Bool
wanted_from p n r = nat_le n r.number && p r
