-- What a trade is: a deal between two parties of opposite sides of a series, at the display price of the one that rests.
use Rattle.std.specs.Prelude.{◌≡◌, ℕ, ◌<◌, List, Some, Option}
use Rattle.values.specs.declared.reference.Reference.{Reference}
use Rattle.values.specs.Sides.{opposite}
use Rattle.screens.specs.Screens.{Lawful}
use Rattle.book.specs.declared.row.Trade.{Trade}
use Rattle.trading.specs.Journals.{Event, Traded}
use Rattle.market.specs.States.{Making}
use Rattle.laws.specs.Histories.{History, Befell}
use Rattle.laws.specs.Admissions.{Party, party_of}
use Rattle.laws.specs.Displays.{display_of}
use Rattle.laws.specs.Runs.{Asked, run}

-- the trade t, after the events `earlier`, of the party a that takes and the party b that rests
pub record Dealt (a b : Option Party) (t : Trade) (earlier : List Event) : Type 0 where
  pub taking : Party
  pub taker : a ≡ Some taking
  pub standing : Party
  pub resting : b ≡ Some standing
  pub series : taking.series ≡ t.series
  pub other : standing.series ≡ t.series
  pub sides : standing.side ≡ opposite taking.side
  -- just before
  pub price : display_of t.resting earlier ≡ Some t.price
  pub sized : 0 < t.size

abbrev pub TradesAreDeals : History → Type 0
TradesAreDeals h = (t : Trade) (earlier : List Event) → Befell (Traded t) earlier h → Dealt (party_of t.taker h) (party_of t.resting h) t earlier

abbrev pub EveryRunDealsFairly : Type 0
EveryRunDealsFairly = (m : Making) (refs : ℕ → Reference) → Lawful m.orders → Lawful m.quotes → (asked : List Asked) → TradesAreDeals (run m refs asked).history
