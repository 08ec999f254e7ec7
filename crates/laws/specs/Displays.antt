-- What the journal says of an order or quote: its display price, what it traded, what was withdrawn of it, and whether it rests.
use Rattle.std.specs.Prelude.{◌≡◌, ℕ, ◌+◌, ◌<◌, Bool, false, cond, ◌||◌, List, [], ◌∷◌, Some, None, Option, ◌==◌}
use Rattle.book.specs.Lists.{or_else}
use Rattle.book.specs.declared.row.Trade.{Trade}
use Rattle.trading.specs.Journals.{Event, Shown, Moved, Traded, Withdrawn}
use Rattle.laws.specs.Histories.{History, journal_of}
use Rattle.laws.specs.Admissions.{Party, party_of}

-- the display price of n: the newest that it was given or moved to
unfoldable pub display_of : ℕ → List Event → Option ℕ
display_of n [] = None
display_of n (Shown i p ∷ j) = or_else (i == n) p (display_of n j)
display_of n (Moved i p ∷ j) = or_else (i == n) p (display_of n j)
display_of n (Traded t ∷ j) = display_of n j
display_of n (Withdrawn w ∷ j) = display_of n j

-- n is a party to the trade
abbrev pub is_party : ℕ → Trade → Bool
is_party n t = t.taker == n || t.resting == n

-- the contracts that the trades of n took
unfoldable pub traded_of : ℕ → List Event → ℕ
traded_of n [] = 0
traded_of n (Shown i p ∷ j) = traded_of n j
traded_of n (Moved i p ∷ j) = traded_of n j
traded_of n (Traded t ∷ j) = cond (is_party n t) t.size 0 + traded_of n j
traded_of n (Withdrawn w ∷ j) = traded_of n j

-- the price of the newest trade of n
unfoldable pub last_trade_of : ℕ → List Event → Option ℕ
last_trade_of n [] = None
last_trade_of n (Shown i p ∷ j) = last_trade_of n j
last_trade_of n (Moved i p ∷ j) = last_trade_of n j
last_trade_of n (Traded t ∷ j) = or_else (is_party n t) t.price (last_trade_of n j)
last_trade_of n (Withdrawn w ∷ j) = last_trade_of n j

-- the contracts that were withdrawn of n
unfoldable pub withdrawn_of : ℕ → List Event → ℕ
withdrawn_of n [] = 0
withdrawn_of n (Shown i p ∷ j) = withdrawn_of n j
withdrawn_of n (Moved i p ∷ j) = withdrawn_of n j
withdrawn_of n (Traded t ∷ j) = withdrawn_of n j
withdrawn_of n (Withdrawn w ∷ j) = cond (w.number == n) w.left 0 + withdrawn_of n j

-- a withdrawal names n
unfoldable pub is_named : ℕ → List Event → Bool
is_named n [] = false
is_named n (Shown i p ∷ j) = is_named n j
is_named n (Moved i p ∷ j) = is_named n j
is_named n (Traded t ∷ j) = is_named n j
is_named n (Withdrawn w ∷ j) = w.number == n || is_named n j

-- the order or quote n, which is x, rests: its admitted size is above what its trades took, and no withdrawal names it
pub record Rests (n : ℕ) (x : Party) (h : History) : Type 0 where
  pub admitted : party_of n h ≡ Some x
  pub unfilled : traded_of n (journal_of h) < x.size
  pub kept : is_named n (journal_of h) ≡ false
