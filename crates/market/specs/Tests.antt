-- The tests of the calls, in the order in which they are made.
use Rattle.std.specs.Prelude.{ℕ, ◌+◌, Bool, true, false, cond, not, ◌&&◌, ◌||◌, List, [], ◌∷◌, length, Some, None, Option, ◌==◌, nat_le, nat_lt}
use Rattle.values.specs.declared.call.Order.{Order}
use Rattle.values.specs.declared.call.Quote.{Quote}
use Rattle.values.specs.declared.call.Update.{Update}
use Rattle.values.specs.declared.nbbo.Nbbo.{Nbbo}
use Rattle.values.specs.declared.order.OrderPrice.{OrderPrice}
use Rattle.values.specs.declared.order.OrderPrice.TheVariants.{Market, Limit}
use Rattle.values.specs.declared.order.Condition.{Condition}
use Rattle.values.specs.declared.order.Condition.TheVariants.{Day, Immediate}
use Rattle.values.specs.declared.reference.Event.{Event}
use Rattle.values.specs.declared.reference.Event.TheVariants.{Close, Open, Last, Halt, Resume}
use Rattle.values.specs.declared.refusal.Refusal.{Refusal}
use Rattle.values.specs.declared.refusal.Refusal.TheVariants.{Rows, Name, Price, Size, Crossed, Clock, Unknown, Dead, Same, Spent, Full, NoMarket, Shut}
use Rattle.values.specs.declared.side.Side.{Side}
use Rattle.book.specs.declared.row.Row.{Row}
use Rattle.book.specs.declared.row.Standing.{Standing}
use Rattle.book.specs.declared.row.Standing.TheVariants as standing
use Rattle.book.specs.Rows.{same_side, row_of}
use Rattle.collars.specs.Updates.{lawful_width, official, different}
use Rattle.trading.specs.Doing.{count}
use Rattle.market.specs.States.{Making, State, Room, class_of}

-- the first test that is met, from the top
abbrev pub first : List (Bool × Refusal) → Option Refusal
first [] = None
first (t ∷ ts) = cond t.0 (Some t.1) (first ts)

-- ---- ranges

-- a price or strike is 1 to 10,000,000
abbrev pub bad_price : ℕ → Bool
bad_price p = nat_lt p 1 || nat_lt 10000000 p

abbrev pub bad_side : Option ℕ → Bool
bad_side None = false
bad_side (Some p) = bad_price p

abbrev pub bad_limit : OrderPrice → Bool
bad_limit Market = false
bad_limit (Limit p) = bad_price p

-- a size is 1 to 999,999
abbrev pub bad_size : ℕ → Bool
bad_size n = nat_lt n 1 || nat_lt 999999 n

abbrev pub bad_event : Event → Bool
bad_event (Close p) = bad_price p
bad_event (Open p) = bad_price p
bad_event (Last p) = bad_price p
bad_event Halt = false
bad_event Resume = false

-- an NBB above the NBO
abbrev pub crossed : Option ℕ → Option ℕ → Bool
crossed None o = false
crossed (Some b) None = false
crossed (Some b) (Some o) = nat_lt o b

-- under 256 free trade rows or 128 free withdrawal rows
abbrev pub tight : Room → Bool
tight r = nat_lt r.trades 256 || nat_lt r.withdrawals 128

abbrev pub unnamed : Making → ℕ → Bool
unnamed m s = nat_le (length m.series) s

-- classes, makers and officials are 0 to 15
abbrev pub unknown : ℕ → Bool
unknown k = nat_lt 15 k

abbrev pub is_day : Condition → Bool
is_day Day = true
is_day Immediate = false

abbrev pub is_market : OrderPrice → Bool
is_market Market = true
is_market (Limit p) = false

abbrev pub is_absent : Option ℕ → Bool
is_absent None = true
is_absent (Some p) = false

abbrev pub one_sided : Nbbo → Bool
one_sided b = is_absent b.bid || is_absent b.offer

-- ---- a maker's quotes

abbrev pub is_mine : ℕ → Standing → Bool
is_mine k standing.Plain = false
is_mine k (standing.Held c d) = false
is_mine k (standing.Quote i) = i == k

-- the maker k's quote on a side of the series s
abbrev pub on_side : ℕ → ℕ → Side → Row → Bool
on_side k s side r = is_mine k r.standing && (r.series == s && same_side r.side side)

-- the maker k's quotes in the class c
abbrev pub in_class : Making → ℕ → ℕ → Row → Bool
in_class m k c r = is_mine k r.standing && class_of m r.series == c

-- no row has the number
abbrev pub lacks : Option Row → Bool
lacks None = true
lacks (Some r) = false

-- ---- the tests of each call

module _ (m : Making) (st : State) where
  abbrev pub tests_nbbo : ℕ → Nbbo → List (Bool × Refusal)
  tests_nbbo s b = (unnamed m s, Name) ∷ (bad_side b.bid || bad_side b.offer, Price) ∷ (crossed b.bid b.offer, Crossed) ∷ []

  abbrev pub tests_event : ℕ → Event → List (Bool × Refusal)
  tests_event c e = (unknown c, Name) ∷ (bad_event e, Price) ∷ (not m.live, Dead) ∷ []

  -- 256 rows rest; an immediate order needs no place
  abbrev pub tests_order : Room → Order → List (Bool × Refusal)
  tests_order room o =
      (tight room, Rows)
      ∷ (unnamed m o.series, Name)
      ∷ (bad_limit o.price, Price)
      ∷ (bad_size o.size, Size)
      ∷ (nat_lt 999999 st.next, Spent)
      ∷ (is_day o.condition && nat_le 256 (length st.rows), Full)
      ∷ (is_market o.price && one_sided (st.nbbo o.series), NoMarket)
      ∷ []

  -- 256 rows rest, not counting a quote that it would replace
  abbrev pub tests_quote : Room → Quote → List (Bool × Refusal)
  tests_quote room q =
      (tight room, Rows)
      ∷ (unnamed m q.series || unknown q.maker, Name)
      ∷ (bad_price q.price, Price)
      ∷ (bad_size q.size, Size)
      ∷ (nat_lt 999999 st.next, Spent)
      ∷ (nat_le 256 (count (λ r. not (on_side q.maker q.series q.side r)) st.rows), Full)
      ∷ (st.shut q.maker (class_of m q.series), Shut)
      ∷ []

  abbrev pub tests_enable : ℕ → ℕ → List (Bool × Refusal)
  tests_enable k c = (unknown k || unknown c, Name) ∷ []

  abbrev pub tests_withdraw : Room → ℕ → List (Bool × Refusal)
  tests_withdraw room n = (tight room, Rows) ∷ (lacks (row_of n st.rows), Unknown) ∷ []

  -- the clock moves on by 0 to 1,000 ms, to the moment 100,000,000 at most
  abbrev pub tests_clock : Room → ℕ → List (Bool × Refusal)
  tests_clock room ms = (tight room, Rows) ∷ (nat_lt 1000 ms || nat_lt 100000000 (st.clock + ms), Clock) ∷ []

  abbrev pub tests_in_force : ℕ → List (Bool × Refusal)
  tests_in_force s = (unnamed m s, Name) ∷ []

  abbrev pub tests_width : Update → List (Bool × Refusal)
  tests_width u = (unnamed m u.series || (not (official u.first) || not (official u.second)), Name) ∷ (not (lawful_width u.width), Price) ∷ (not (different u.first u.second), Same) ∷ []
