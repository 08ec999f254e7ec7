-- A market of the code as the definitions have it, and what a call of the code does.
use Rattle.std.specs.Prelude.{◌≡◌, ℕ, []}
use Rattle.rolls.specs.declared.roll.Roll.{Roll}
use Rattle.rolls.specs.Rolls.{Gains, room}
use Rattle.book.specs.declared.row.Trade.{Trade}
use Rattle.book.specs.declared.row.Withdrawal.{Withdrawal}
use Rattle.screens.specs.declared.view.View.{View}
use Rattle.screens.specs.declared.view.Extent.{Extent}
use Rattle.values.specs.declared.call.Call.{Call}
use Rattle.values.specs.declared.side.Side.{Side}
use Rattle.screens.specs.declared.screen.Screen as screen
use Rattle.sources.specs.declared.PriceSource as source
use Rattle.sources.specs.Sources.{reference_of}
use Rattle.trading.specs.declared.blotter.Blotter.{Blotter}
use Rattle.trading.specs.Journals.{trades_of, withdrawals_of}
use Rattle.trading.specs.Floors.{rows_on}
use Rattle.market.specs.declared.market.Market.{Market}
use Rattle.market.specs.States.{Making, State, Room, Answer, Outcome}
use Rattle.market.specs.Listings.{listed}
use Rattle.market.specs.Boards.{nbbo_at, width_at}
use Rattle.market.specs.Shutouts.{shut_in}
use Rattle.market.specs.Calls.{step}

-- the free rows of two rolls
abbrev pub free_rows : Roll Trade → Roll Withdrawal → Room
free_rows trades withdrawals = record { trades = room trades; withdrawals = room withdrawals }

-- of a blotter's two rolls
abbrev pub room_of : Blotter → Room
room_of b = free_rows b.trades.now b.withdrawals.now

-- a blotter lends the rolls that it lent before
pub record SameRolls (b b' : Blotter) : Type 0 where
  pub trades : b'.trades.ghost_name ≡ b.trades.ghost_name
  pub withdrawals : b'.withdrawals.ghost_name ≡ b.withdrawals.ghost_name

module _ {O Q S : Type 0} (o : screen.Ghosts O) (q : screen.Ghosts Q) (k : Q → View → Side → ℕ → Extent) (s : source.Ghosts S) where
  abbrev pub making : Market O Q S → Making
  making m = record { series = listed m.listing; orders = o.meaning m.orders; quotes = q.meaning m.quotes; extent = k m.quotes; live = s.live m.source }

  abbrev pub state : Market O Q S → State
  state m = record {
    nbbo = nbbo_at m.boards;
    reference = reference_of (s.references m.source);
    width = width_at m.boards;
    shut = shut_in m.shutouts;
    rows = rows_on m.floor;
    clock = m.floor.clock;
    next = m.floor.next;
  }

  -- what a definition says of a market
  abbrev pub of_market : {A : Type 0} → (Making → State → A) → Market O Q S → A
  of_market f m = f (making m) (state m)

  -- a call of the code from one market to the next comes to an outcome
  pub record Comes (m m' : Market O Q S) (answer : Answer) (out : Outcome) : Type 0 where
    pub answers : answer ≡ out.answer
    pub moves : state m' ≡ out.next
    pub stays : making m' ≡ making m

  -- and adds nothing to a roll
  pub record ComesQuietly (m m' : Market O Q S) (answer : Answer) (out : Outcome) : Type 0 where
    pub comes : Comes m m' answer out
    pub quiet : out.journal ≡ []

  -- and adds to the rolls of a blotter what its journal notes
  pub record ComesWith (m m' : Market O Q S) (answer : Answer) (out : Outcome) (b b' : Blotter) : Type 0 where
    pub comes : Comes m m' answer out
    pub trades_gain : Gains b.trades.now b'.trades.now (trades_of out.journal)
    pub withdrawals_gain : Gains b.withdrawals.now b'.withdrawals.now (withdrawals_of out.journal)
    pub same_rolls : SameRolls b b'

  -- what a call of the code does that is given no blotter: it comes to the same whatever the room
  abbrev pub DoesQuietly : Market O Q S → Market O Q S → Call → Answer → Type 0
  DoesQuietly m m' call answer = (room : Room) → ComesQuietly m m' answer (of_market step m room call)

  -- what a call of the code does: the one contract of all of them
  abbrev pub Does : Market O Q S → Market O Q S → Call → Answer → Blotter → Blotter → Type 0
  Does m m' call answer b b' = ComesWith m m' answer (of_market step m (room_of b) call) b b'
