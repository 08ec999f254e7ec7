-- Display prices: O or Q gives one, once; T alone moves it, by exactly the collar or to the limit.
use Rattle.std.specs.Prelude.{◌≡◌, ℕ, ◌+◌, ◌-◌, Bool, true, false, cond, List, Some, None, Option, nat_lt}
use Rattle.std.specs.Option.{unwrap_or}
use Rattle.values.specs.declared.call.Call.{Call}
use Rattle.values.specs.declared.call.Call.TheVariants as call
use Rattle.values.specs.declared.reference.Reference.{Reference}
use Rattle.values.specs.Sides.{NoMoreAggressive, ahead, onward}
use Rattle.screens.specs.Screens.{Lawful}
use Rattle.trading.specs.Journals.{Event, Shown, Moved}
use Rattle.market.specs.States.{Making}
use Rattle.laws.specs.Histories.{Entry, History, journal_of, Made, Befell, BefellIn}
use Rattle.laws.specs.Admissions.{Party, admits, party_of}
use Rattle.laws.specs.Displays.{display_of, last_trade_of, Rests}
use Rattle.laws.specs.Collars.{Collar, collar_of}
use Rattle.laws.specs.Runs.{Asked, run}

abbrev pub is_clock : Call → Bool
is_clock (call.Clock ms) = true
is_clock other = false

-- how far two prices are apart
abbrev pub gap : ℕ → ℕ → ℕ
gap p q = (p - q) + (q - p)

-- the display price that n is given: its limit, where it is not collared; in a wide market, where the NBBO is more than the collar
-- apart, one collar onward from its own side; in a narrow one the price of its last trade, or its own side if it made none
abbrev pub given_by : Option Collar → Party → ℕ → List Event → ℕ
given_by None x n earlier = x.limit
given_by (Some c) x n earlier =
    cond (nat_lt c.width (gap c.own c.contra))
    (ahead c.side c.own c.width)
    (unwrap_or (last_trade_of n earlier) c.own)

abbrev pub GivenTo : Option Collar → Option Party → ℕ → ℕ → List Event → Type 0
GivenTo c o n p earlier = (x : Party) × (o ≡ Some x) × (p ≡ given_by c x n earlier)

-- from its display price a collared order moves to the price p: its collar onward, and to its limit where that comes first
abbrev pub MovesOn : Option Collar → ℕ → ℕ → List Event → Type 0
MovesOn None n p earlier = ⊥
MovesOn (Some c) n p earlier = (d : ℕ) × (display_of n earlier ≡ Some d) × (p ≡ onward c.side d c.width c.limit)

pub record MovesAreLawful (h : History) : Type 0 where
  -- a display price is given by the call that admits the order or quote
  pub given_at_admission : (e : Entry) (before : History) → Made e before h → (n p : ℕ) (earlier : List Event) → BefellIn (Shown n p) earlier e → admits n e ≡ true
  -- by where it stands to the NBBO and its collar
  pub given_by_rule : (n p : ℕ) (earlier : List Event) → Befell (Shown n p) earlier h → GivenTo (collar_of n h) (party_of n h) n p earlier
  -- and only once
  pub given_once : (n p : ℕ) (earlier : List Event) → Befell (Shown n p) earlier h → display_of n earlier ≡ None
  -- whatever rests has one, no more aggressive than its limit
  pub resting_displays : (n : ℕ) (x : Party) → Rests n x h → (p : ℕ) × (display_of n (journal_of h) ≡ Some p) × NoMoreAggressive x.side p x.limit
  -- T alone moves it
  pub moved_by_the_clock : (e : Entry) (before : History) → Made e before h → (n p : ℕ) (earlier : List Event) → BefellIn (Moved n p) earlier e → is_clock e.call ≡ true
  -- by exactly the collar or to the limit, never past it
  pub moved_one_collar : (n p : ℕ) (earlier : List Event) → Befell (Moved n p) earlier h → MovesOn (collar_of n h) n p earlier

abbrev pub EveryRunMovesLawfully : Type 0
EveryRunMovesLawfully = (m : Making) (refs : ℕ → Reference) → Lawful m.orders → Lawful m.quotes → (asked : List Asked) → MovesAreLawful (run m refs asked).history
