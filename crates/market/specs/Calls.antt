-- What each call comes to.
use Rattle.std.specs.Prelude.{ℕ, suc, ◌+◌, true, false, [], Some, None, Ok, Err, Option}
use Rattle.values.specs.declared.call.Call.{Call}
use Rattle.values.specs.declared.call.Call.TheVariants as call
use Rattle.values.specs.declared.call.Order.{Order}
use Rattle.values.specs.declared.call.Quote.{Quote}
use Rattle.values.specs.declared.call.Update.{Update}
use Rattle.values.specs.declared.nbbo.Nbbo.{Nbbo}
use Rattle.values.specs.declared.order.OrderPrice.{OrderPrice}
use Rattle.values.specs.declared.order.OrderPrice.TheVariants.{Market, Limit}
use Rattle.values.specs.declared.order.Condition.{Condition}
use Rattle.values.specs.declared.order.Condition.TheVariants.{Day, Immediate}
use Rattle.values.specs.declared.reference.Event.{Event}
use Rattle.values.specs.declared.refusal.Cause.{Cause}
use Rattle.values.specs.declared.refusal.Refusal.{Refusal}
use Rattle.values.specs.declared.refusal.Refusal.TheVariants.{Screen}
use Rattle.values.specs.declared.side.Side.{Side}
use Rattle.values.specs.Orders.{limit_of}
use Rattle.values.specs.References.{after}
use Rattle.screens.specs.declared.view.Extent.{Extent}
use Rattle.screens.specs.declared.view.Extent.TheVariants.{OneSide, WholeClass}
use Rattle.screens.specs.Views.{Verdict, passes}
use Rattle.collars.specs.declared.pricing.Pricing.{Pricing}
use Rattle.collars.specs.declared.pricing.Pricing.TheVariants.{AtLimit}
use Rattle.collars.specs.Collars.{width_by}
use Rattle.collars.specs.Pricings.{pricing}
use Rattle.book.specs.Rows.{numbered}
use Rattle.trading.specs.declared.ticket.Ticket.{Ticket}
use Rattle.trading.specs.Desks.{Desk, pull, second_after, advance, enter, enter_now}
use Rattle.trading.specs.Doing.{desk}
use Rattle.market.specs.States.{Making, State, Room, Answer, Outcome, class_of, view_in, set, set_shut}
use Rattle.market.specs.Tests.{first, on_side, in_class, tests_nbbo, tests_event, tests_order, tests_quote, tests_enable, tests_withdraw, tests_clock, tests_in_force, tests_width}

-- a refusal leaves the market and the rolls as they were
abbrev pub refuse : State → Refusal → Outcome
refuse st e = record { answer = Err e; next = st; journal = [] }

abbrev pub unless : Option Refusal → State → Outcome → Outcome
unless None st o = o
unless (Some e) st o = refuse st e

-- taken, with nothing added to a roll
abbrev pub taken_quietly : State → Outcome
taken_quietly st = record { answer = Ok None; next = st; journal = [] }

-- the state with another book, clock and next number, and what the desk noted
abbrev pub outcome : Answer → State → ℕ → ℕ → Desk → Outcome
outcome a st k next d = record {
  answer = a;
  next = record { nbbo = st.nbbo; reference = st.reference; width = st.width; shut = st.shut; rows = d.rows; clock = k; next = next };
  journal = d.journal;
}

-- an order or quote as it is admitted, with the next number
abbrev pub ticket_for : State → ℕ → Side → ℕ → ℕ → Option ℕ → Ticket
ticket_for st s side limit size maker = record { number = st.next; series = s; side = side; limit = limit; size = size; maker = maker }

-- the pricing of a day order, by what the width of its series goes by
abbrev pub priced_at : Option ℕ → Side → ℕ → Nbbo → Option ℕ → Pricing
priced_at w side limit b None = AtLimit limit
priced_at w side limit b (Some bid) = pricing side limit b (width_by w bid)

abbrev pub priced : Option ℕ → Side → ℕ → Nbbo → Pricing
priced w side limit b = priced_at w side limit b b.bid

abbrev pub enter_by : Condition → ℕ → Ticket → Pricing → Desk → Desk
enter_by Day due t p d = enter due t p d
enter_by Immediate due t p d = enter_now due t d

module _ (m : Making) (st : State) where
  -- ---- N, U, E, X, T

  abbrev pub taken_nbbo : ℕ → Nbbo → Outcome
  taken_nbbo s b = taken_quietly (record { nbbo = set s b st.nbbo; reference = st.reference; width = st.width; shut = st.shut; rows = st.rows; clock = st.clock; next = st.next })

  abbrev pub step_nbbo : ℕ → Nbbo → Outcome
  step_nbbo s b = unless (first (tests_nbbo m st s b)) st (taken_nbbo s b)

  abbrev pub taken_event : ℕ → Event → Outcome
  taken_event c e = taken_quietly (record { nbbo = st.nbbo; reference = set c (after e (st.reference c)) st.reference; width = st.width; shut = st.shut; rows = st.rows; clock = st.clock; next = st.next })

  abbrev pub step_event : ℕ → Event → Outcome
  step_event c e = unless (first (tests_event m st c e)) st (taken_event c e)

  abbrev pub taken_enable : ℕ → ℕ → Outcome
  taken_enable k c = taken_quietly (record { nbbo = st.nbbo; reference = st.reference; width = st.width; shut = set_shut k c false st.shut; rows = st.rows; clock = st.clock; next = st.next })

  abbrev pub step_enable : ℕ → ℕ → Outcome
  step_enable k c = unless (first (tests_enable m st k c)) st (taken_enable k c)

  abbrev pub taken_withdraw : ℕ → Outcome
  taken_withdraw n = outcome (Ok None) st st.clock st.next (pull (numbered n) (desk st.rows))

  abbrev pub step_withdraw : Room → ℕ → Outcome
  step_withdraw room n = unless (first (tests_withdraw m st room n)) st (taken_withdraw n)

  abbrev pub taken_clock : ℕ → Outcome
  taken_clock ms = outcome (Ok None) st (st.clock + ms) st.next (advance (st.clock + ms) (desk st.rows))

  abbrev pub step_clock : Room → ℕ → Outcome
  step_clock room ms = unless (first (tests_clock m st room ms)) st (taken_clock ms)

  -- ---- W

  abbrev pub taken_width : ℕ → Option ℕ → Outcome
  taken_width s w = taken_quietly (record { nbbo = st.nbbo; reference = st.reference; width = set s w st.width; shut = st.shut; rows = st.rows; clock = st.clock; next = st.next })

  -- an approved update
  abbrev pub step_in_force : ℕ → Option ℕ → Outcome
  step_in_force s w = unless (first (tests_in_force m st s)) st (taken_width s w)

  -- an update by its numbers, drafted and approved at its turn
  abbrev pub step_width : Update → Outcome
  step_width u = unless (first (tests_width m st u)) st (taken_width u.series u.width)

  -- ---- O

  -- a market order is not screened
  abbrev pub screening : ℕ → Side → OrderPrice → Verdict
  screening s side Market = passes
  screening s side (Limit p) = m.orders (view_in m st s) side p

  abbrev pub taken_order : Order → Outcome
  taken_order o =
      outcome (Ok (Some st.next)) st st.clock (suc st.next)
      (enter_by o.condition (second_after st.clock) (ticket_for st o.series o.side (limit_of o.side o.price) o.size None) (priced (st.width o.series) o.side (limit_of o.side o.price) (st.nbbo o.series)) (desk st.rows))

  abbrev pub order_by : Verdict → Order → Outcome
  order_by (Ok pass) o = taken_order o
  order_by (Err why) o = refuse st (Screen why)

  abbrev pub step_order : Room → Order → Outcome
  step_order room o = unless (first (tests_order m st room o)) st (order_by (screening o.series o.side o.price) o)

  -- ---- Q

  -- a refusal by the screen withdraws the maker's quotes as far as it reaches
  abbrev pub refused_quote : Extent → Cause → Quote → Outcome
  refused_quote OneSide why q = outcome (Err (Screen why)) st st.clock st.next (pull (on_side q.maker q.series q.side) (desk st.rows))
  refused_quote WholeClass why q =
      let d = pull (in_class m q.maker (class_of m q.series)) (desk st.rows) in
      record {
        answer = Err (Screen why);
        next = record { nbbo = st.nbbo; reference = st.reference; width = st.width; shut = set_shut q.maker (class_of m q.series) true st.shut; rows = d.rows; clock = st.clock; next = st.next };
        journal = d.journal;
      }

  -- the maker's older quote on that side is withdrawn, and the new one enters at its price
  abbrev pub taken_quote : Quote → Outcome
  taken_quote q =
      outcome (Ok (Some st.next)) st st.clock (suc st.next)
      (enter (second_after st.clock) (ticket_for st q.series q.side q.price q.size (Some q.maker)) (AtLimit q.price) (pull (on_side q.maker q.series q.side) (desk st.rows)))

  abbrev pub quote_by : Verdict → Quote → Outcome
  quote_by (Ok pass) q = taken_quote q
  quote_by (Err why) q = refused_quote (m.extent (view_in m st q.series) q.side q.price) why q

  abbrev pub step_quote : Room → Quote → Outcome
  step_quote room q = unless (first (tests_quote m st room q)) st (quote_by (m.quotes (view_in m st q.series) q.side q.price) q)

  abbrev pub step : Room → Call → Outcome
  step room (call.Nbbo s b) = step_nbbo s b
  step room (call.Event c e) = step_event c e
  step room (call.Order o) = step_order room o
  step room (call.Quote q) = step_quote room q
  step room (call.Enable k c) = step_enable k c
  step room (call.Withdraw n) = step_withdraw room n
  step room (call.Clock ms) = step_clock room ms
  step room (call.Width u) = step_width u
