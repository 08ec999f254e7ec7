-- What an operation on a book does, by what it does to the desk: the rows afterwards are the desk's, and a roll gains what the journal
-- notes.
use Rattle.std.specs.Prelude.{◌≡◌, ℕ, ◌+◌, Bool, true, false, cond, ◌&&◌, List, [], ◌∷◌, Some, None, Option, ◌==◌}
use Rattle.rolls.specs.declared.roll.Roll.{Roll}
use Rattle.rolls.specs.Rolls.{Gains}
use Rattle.book.specs.declared.row.Row.{Row}
use Rattle.book.specs.declared.row.Standing.{Standing}
use Rattle.book.specs.declared.row.Standing.TheVariants.{Plain, Held, Quote}
use Rattle.book.specs.declared.row.Trade.{Trade}
use Rattle.book.specs.declared.row.Withdrawal.{Withdrawal}
use Rattle.book.specs.Rows.{stands_at}
use Rattle.collars.specs.declared.pricing.Pricing.{Pricing}
use Rattle.collars.specs.Pricings.{reach_of, display_of}
use Rattle.values.specs.Sides.{no_more_aggressive}
use Rattle.trading.specs.declared.ticket.Ticket.{Ticket}
use Rattle.trading.specs.Journals.{trades_of, withdrawals_of}
use Rattle.trading.specs.Desks.{Desk}

-- the rows as a call begins, nothing noted yet
abbrev pub desk : List Row → Desk
desk rs = record { rows = rs; journal = [] }

-- an operation that trades
pub record Trading (after : List Row) (roll₀ roll : Roll Trade) (d : Desk) : Type 0 where
  pub rests : after ≡ d.rows
  pub gains : Gains roll₀ roll (trades_of d.journal)

-- an operation that withdraws
pub record Withdrawing (after : List Row) (roll₀ roll : Roll Withdrawal) (d : Desk) : Type 0 where
  pub rests : after ≡ d.rows
  pub gains : Gains roll₀ roll (withdrawals_of d.journal)

abbrev pub is_held : Standing → Bool
is_held Plain = false
is_held (Held c m) = true
is_held (Quote k) = false

-- r is held in the series s
abbrev pub held_in : ℕ → Row → Bool
held_in s r = r.series == s && is_held r.standing

-- how many rows pass
unfoldable pub count : (Row → Bool) → List Row → ℕ
count p [] = 0
count p (r ∷ rs) = cond (p r) 1 0 + count p rs

abbrev pub is_quote_of : Option ℕ → Standing → Bool
is_quote_of None x = false
is_quote_of (Some k) Plain = false
is_quote_of (Some k) (Held c m) = false
is_quote_of (Some k) (Quote i) = k == i

-- r is a quote of the ticket's maker, on the ticket's side of its series
abbrev pub rivals : Ticket → Row → Bool
rivals t r = stands_at t.series t.side r && is_quote_of t.maker r.standing

-- what makes no trade displays within the reach
abbrev pub displays_in_reach : Ticket → Pricing → Bool
displays_in_reach t p = no_more_aggressive t.side (display_of p None) (reach_of p)
