-- What a market promises of every run: the four laws of price protection.
use Rattle.std.specs.Prelude.{◌≡◌, ℕ, ◌<◌, false, List, Some, None, Option}
use Rattle.std.specs.Option.{unwrap_or}
use Rattle.values.specs.declared.call.Call.{Call}
use Rattle.values.specs.declared.call.Call.TheVariants as call
use Rattle.values.specs.declared.call.Order.{Order}
use Rattle.values.specs.declared.order.OrderPrice.{OrderPrice}
use Rattle.values.specs.declared.order.OrderPrice.TheVariants.{Market, Limit}
use Rattle.values.specs.declared.reference.Reference.{Reference}
use Rattle.values.specs.declared.side.Side.TheVariants.{Buy, Sell}
use Rattle.values.specs.Sides.{NoMoreAggressive, ahead}
use Rattle.screens.specs.Screens.{Lawful}
use Rattle.screens.specs.Views.{passes}
use Rattle.book.specs.declared.row.Trade.{Trade}
use Rattle.trading.specs.Journals.{Event, Traded}
use Rattle.market.specs.States.{Making, class_of}
use Rattle.laws.specs.Histories.{History, journal_of, Befell}
use Rattle.laws.specs.Admissions.{Party, Admission, admission}
use Rattle.laws.specs.Views.{view_of}
use Rattle.laws.specs.Displays.{display_of, Rests}
use Rattle.laws.specs.Collars.{Collar, collar_of}
use Rattle.laws.specs.Shutouts.{shut_out}
use Rattle.laws.specs.Runs.{Asked, run}

-- a trade at p, after the events `earlier`, is at most the collar more aggressive than the display price of n just before; until n
-- has one, the contra side in the view of its admission stands in
abbrev pub WithinCollar : Option Collar → ℕ → ℕ → List Event → Type 0
WithinCollar None n p earlier = Unit {0}
WithinCollar (Some c) n p earlier = NoMoreAggressive c.side p (ahead c.side (unwrap_or (display_of n earlier) c.contra) c.width)

-- in every trade, the price for each party that is a collared order is at most its collar more aggressive than its display price
-- just before
abbrev pub TradesStayWithinTheCollar : History → Type 0
TradesStayWithinTheCollar h = (t : Trade) (earlier : List Event) → Befell (Traded t) earlier h → WithinCollar (collar_of t.taker h) t.taker t.price earlier × WithinCollar (collar_of t.resting h) t.resting t.price earlier

-- in every series each resting bid displays below each resting offer
abbrev pub BooksNeverCross : History → Type 0
BooksNeverCross h =
    (b o : ℕ) (x y : Party) → Rests b x h → Rests o y h → x.side ≡ Buy → y.side ≡ Sell → x.series ≡ y.series
    → (p : ℕ) × (q : ℕ) × (display_of b (journal_of h) ≡ Some p) × (display_of o (journal_of h) ≡ Some q) × (p < q)

module _ (m : Making) (refs : ℕ → Reference) where
  -- the screen of an order, by its own price, passes the price p in the view of the moment; a market order has none
  abbrev pub OrderPassesAt : ℕ → Order → OrderPrice → History → Type 0
  OrderPassesAt p o Market h = Unit {0}
  OrderPassesAt p o (Limit limit) h = m.orders (view_of m refs o.series h) o.side p ≡ passes

  -- the screen of the order or quote that the call brings, if it has one, passes the price p in the view of the moment; no other call
  -- brings one
  abbrev pub PassesAt : ℕ → Call → History → Type 0
  PassesAt p (call.Order o) h = OrderPassesAt p o o.price h
  PassesAt p (call.Quote q) h = m.quotes (view_of m refs q.series h) q.side p ≡ passes
  PassesAt p other h = ⊥

  abbrev pub PassesIn : ℕ → Option Admission → Type 0
  PassesIn p None = ⊥
  PassesIn p (Some a) = PassesAt p a.call a.before

  -- n was admitted, and its screen, if it has one, passes p in the view of its admission
  abbrev pub PassesScreenOf : ℕ → ℕ → History → Type 0
  PassesScreenOf n p h = PassesIn p (admission n h)

  -- in every trade, the screen of each party that is a limit order or a quote passes the trade's price in the view of that party's
  -- admission
  abbrev pub TradesPassTheirScreens : History → Type 0
  TradesPassTheirScreens h = (t : Trade) (earlier : List Event) → Befell (Traded t) earlier h → PassesScreenOf t.taker t.price h × PassesScreenOf t.resting t.price h

  -- no quote rests of a maker that is shut out of its class
  abbrev pub NoQuoteOfAMakerShutOut : History → Type 0
  NoQuoteOfAMakerShutOut h = (n k : ℕ) (x : Party) → Rests n x h → x.maker ≡ Some k → shut_out m refs k (class_of m x.series) h ≡ false

  -- the four together
  pub record Protected (h : History) : Type 0 where
    pub trades_pass_their_screens : TradesPassTheirScreens h
    pub trades_stay_within_the_collar : TradesStayWithinTheCollar h
    pub books_never_cross : BooksNeverCross h
    pub no_quote_of_a_maker_shut_out : NoQuoteOfAMakerShutOut h

-- for every listing and all lawful screens, whatever references the price source began with, whatever is called
abbrev pub EveryRunProtected : Type 0
EveryRunProtected = (m : Making) (refs : ℕ → Reference) → Lawful m.orders → Lawful m.quotes → (asked : List Asked) → Protected m refs (run m refs asked).history
