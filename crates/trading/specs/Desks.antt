-- What is done to the rows within a call, and noted in its journal: held orders are served and moved, rows are withdrawn, an order or
-- quote enters.
use Rattle.std.specs.Prelude.{ℕ, zero, suc, ◌+◌, ◌-◌, max, Bool, cond, List, [], ◌∷◌, length, Some, None, Option, ◌==◌, nat_le}
use Rattle.values.specs.Sides.{onward}
use Rattle.collars.specs.declared.pricing.Pricing.{Pricing}
use Rattle.collars.specs.declared.pricing.Pricing.TheVariants.{AtLimit, Wide, Narrow}
use Rattle.collars.specs.Pricings.{reach_of, display_of, collar_of}
use Rattle.book.specs.declared.row.Row.{Row}
use Rattle.book.specs.declared.row.Standing.{Standing}
use Rattle.book.specs.declared.row.Standing.TheVariants.{Plain, Held, Quote}
use Rattle.book.specs.declared.row.Due.{Due}
use Rattle.book.specs.declared.row.Taker.{Taker}
use Rattle.book.specs.declared.row.Trade.{Trade}
use Rattle.book.specs.Rows.{insert, without, row_of, settle, move_row}
use Rattle.book.specs.Dues.{earliest}
use Rattle.book.specs.Taking.{Fill, take}
use Rattle.trading.specs.declared.ticket.Ticket.{Ticket}
use Rattle.trading.specs.Journals.{Event, Shown, Moved, Withdrawn, noting}

-- the rows in rank, and what was noted in the call so far
pub record Desk : Type 0 where
  pub rows : List Row
  pub journal : List Event

-- ---- one after another

-- the highest number of the rows
abbrev pub highest : List Row → ℕ
highest [] = 0
highest (r ∷ rs) = max r.number (highest rs)

-- for each number up to n, the lowest first
unfoldable pub each_number : ℕ → (ℕ → Desk → Desk) → Desk → Desk
each_number zero f d = d
each_number (suc n) f d = f (suc n) (each_number n f d)

-- ---- serving

-- a held order takes with its collar: the lesser of display + C and limit is its reach
abbrev pub taker_of : Row → ℕ → Taker
taker_of r c = record { number = r.number; series = r.series; side = r.side; reach = onward r.side r.display c r.limit }

-- the held order r takes what it can; `due` is the moment at which a held order that traded falls due
unfoldable pub serve_row : ℕ → Row → ℕ → Desk → Desk
serve_row due r c d =
    let f = take due (taker_of r c) r.size d.rows [] in
    record { rows = settle due (r.size - f.left) r.number f.rows; journal = noting f.trades d.journal }

abbrev pub serve_standing : ℕ → Standing → Row → Desk → Desk
serve_standing due Plain r d = d
serve_standing due (Held c m) r d = serve_row due r c d
serve_standing due (Quote k) r d = d

abbrev pub serve_found : ℕ → ℕ → Option Row → Desk → Desk
serve_found due s None d = d
serve_found due s (Some r) d = cond (r.series == s) (serve_standing due r.standing r d) d

-- the order n, if it is held in the series s
unfoldable pub serve_one : ℕ → ℕ → ℕ → Desk → Desk
serve_one due s n d = serve_found due s (row_of n d.rows) d

-- the series s is served: each held order of it, the lowest number first
unfoldable pub serve : ℕ → ℕ → Desk → Desk
serve due s d = each_number (highest d.rows) (serve_one due s) d

-- ---- withdrawing

abbrev pub withdrawn : Row → Event
withdrawn r = Withdrawn (record { number = r.number; left = r.size })

-- the row n is withdrawn, if it is one that p names
abbrev pub pull_found : (Row → Bool) → Option Row → Desk → Desk
pull_found p None d = d
pull_found p (Some r) d = cond (p r) (record { rows = without r.number d.rows; journal = withdrawn r ∷ d.journal }) d

unfoldable pub pull_one : (Row → Bool) → ℕ → Desk → Desk
pull_one p n d = pull_found p (row_of n d.rows) d

-- all rows that p names are withdrawn, the lowest number first
unfoldable pub pull : (Row → Bool) → Desk → Desk
pull p d = each_number (highest d.rows) (pull_one p) d

-- ---- moving held orders

-- 1,000 ms later
abbrev pub second_after : ℕ → ℕ
second_after moment = moment + 1000

-- the held order r moves its collar onward, not past its limit, and is due a second after it was
unfoldable pub move_on : Row → ℕ → ℕ → Desk → Desk
move_on r c moment d =
    let p = onward r.side r.display c r.limit in
    record { rows = move_row r.number p (second_after moment) d.rows; journal = Moved r.number p ∷ d.journal }

-- it moves, and its series is served at the moment k
abbrev pub move_standing : ℕ → ℕ → Standing → Row → Desk → Desk
move_standing k moment Plain r d = d
move_standing k moment (Held c m) r d = serve (second_after k) r.series (move_on r c moment d)
move_standing k moment (Quote q) r d = d

abbrev pub move_found : ℕ → ℕ → Option Row → Desk → Desk
move_found k moment None d = d
move_found k moment (Some r) d = move_standing k moment r.standing r d

-- the held order that is due first, if it is due by the moment k
abbrev pub turn_found : ℕ → Option Due → Desk → Desk
turn_found k None d = d
turn_found k (Some e) d = cond (nat_le e.moment k) (move_found k e.moment (row_of e.number d.rows) d) d

unfoldable pub turn : ℕ → Desk → Desk
turn k d = turn_found k (earliest d.rows) d

-- n turns
unfoldable pub turns : ℕ → ℕ → Desk → Desk
turns zero k d = d
turns (suc n) k d = turns n k (turn k d)

-- the clock comes to the moment k: while an order is due, the one that is due first moves; none moves twice
unfoldable pub advance : ℕ → Desk → Desk
advance k d = turns (length d.rows) k d

-- ---- entering

abbrev pub taker : Ticket → ℕ → Taker
taker t reach = record { number = t.number; series = t.series; side = t.side; reach = reach }

-- the price of the last of some trades, the newest first
abbrev pub last_price : List Trade → Option ℕ
last_price [] = None
last_price (e ∷ es) = Some e.price

-- a collared balance whose display price is not its limit is held
abbrev pub held_at : ℕ → ℕ → ℕ → Option ℕ → Standing
held_at due display limit None = Plain
held_at due display limit (Some c) = cond (display == limit) Plain (Held c due)

-- whose it is says what the balance rests as: an order or a maker's quote
abbrev pub standing_by : ℕ → ℕ → ℕ → Option ℕ → Option ℕ → Standing
standing_by due display limit collar None = held_at due display limit collar
standing_by due display limit collar (Some k) = Quote k

abbrev pub standing_of : ℕ → Ticket → Pricing → ℕ → Standing
standing_of due t p display = standing_by due display t.limit (collar_of p) t.maker

abbrev pub row_for : ℕ → Ticket → Pricing → ℕ → ℕ → Row
row_for due t p display n = record { number = t.number; series = t.series; side = t.side; display = display; limit = t.limit; size = n; standing = standing_of due t p display }

-- in a wide market the display price is given before the order takes
abbrev pub show_first : Ticket → Pricing → List Event → List Event
show_first t (AtLimit limit) j = j
show_first t (Wide display reach c) j = Shown t.number display ∷ j
show_first t (Narrow untraded reach c) j = j

abbrev pub show_last : Ticket → Pricing → ℕ → List Event → List Event
show_last t (AtLimit limit) display j = Shown t.number display ∷ j
show_last t (Wide shown reach c) display j = j
show_last t (Narrow untraded reach c) display j = Shown t.number display ∷ j

-- the rows with the balance of n contracts among them, by the price of its last trade
abbrev pub rest_rows : ℕ → Ticket → Pricing → Option ℕ → List Row → ℕ → List Row
rest_rows due t p last rs zero = rs
rest_rows due t p last rs (suc n) = insert (row_for due t p (display_of p last) (suc n)) rs

abbrev pub rest_journal : Ticket → Pricing → Option ℕ → ℕ → List Event → List Event
rest_journal t p last zero j = j
rest_journal t p last (suc n) j = show_last t p (display_of p last) j

-- the balance of n contracts rests
unfoldable pub rest : ℕ → Ticket → Pricing → Fill → ℕ → List Event → Desk
rest due t p f n j = record { rows = rest_rows due t p (last_price f.trades) f.rows n; journal = rest_journal t p (last_price f.trades) n j }

-- it trades within its reach, its balance rests, and its series is served
unfoldable pub enter : ℕ → Ticket → Pricing → Desk → Desk
enter due t p d =
    let f = take due (taker t (reach_of p)) t.size d.rows [] in
    serve due t.series (rest due t p f f.left (noting f.trades (show_first t p d.journal)))

-- the balance of an immediate order is withdrawn
abbrev pub lapse : ℕ → ℕ → List Event → List Event
lapse n zero j = j
lapse n (suc left) j = Withdrawn (record { number = n; left = suc left }) ∷ j

-- it trades up to its limit, and what is left is withdrawn
unfoldable pub enter_now : ℕ → Ticket → Desk → Desk
enter_now due t d =
    let f = take due (taker t t.limit) t.size d.rows [] in
    record { rows = f.rows; journal = lapse t.number f.left (noting f.trades d.journal) }
