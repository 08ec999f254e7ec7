-- How a call comes out: refused by the first test that is met or by a screen, or taken where it meets none.
use Rattle.std.proofs.Common.{◌≡◌, ℕ, ◌≤◌, Bool, true, false, cond, ltb, List, [], ◌∷◌, Some, None, Ok, Err, Option, refl, subst, arith}
use Rattle.std.proofs.lemmas.Bool.{ltb-false, or_parts}
use Rattle.values.specs.declared.call.Call.{Call}
use Rattle.values.specs.declared.call.Call.TheVariants as call
use Rattle.values.specs.declared.call.Order.{Order}
use Rattle.values.specs.declared.call.Quote.{Quote}
use Rattle.values.specs.declared.call.Update.{Update}
use Rattle.values.specs.declared.nbbo.Nbbo.{Nbbo}
use Rattle.values.specs.declared.order.Condition.{Condition}
use Rattle.values.specs.declared.order.Condition.TheVariants.{Day, Immediate}
use Rattle.values.specs.declared.reference.Event.{Event}
use Rattle.values.specs.declared.refusal.Cause.{Cause}
use Rattle.values.specs.declared.refusal.Refusal.{Refusal}
use Rattle.values.specs.declared.refusal.Refusal.TheVariants.{Screen}
use Rattle.values.specs.Orders.{limit_of}
use Rattle.screens.specs.declared.view.Extent.{Extent}
use Rattle.screens.specs.declared.view.Extent.TheVariants.{OneSide, WholeClass}
use Rattle.screens.specs.Views.{Verdict, passes}
use Rattle.collars.specs.declared.pricing.Pricing.{Pricing}
use Rattle.collars.specs.declared.pricing.Pricing.TheVariants.{AtLimit}
use Rattle.trading.specs.declared.ticket.Ticket.{Ticket}
use Rattle.trading.specs.Desks.{Desk, pull, second_after, enter, enter_now}
use Rattle.trading.specs.Doing.{desk}
use Rattle.market.specs.States.{Making, State, Room, Outcome, class_of, view_in}
use Rattle.market.specs.Tests.{first, on_side, in_class, tests_nbbo, tests_event, tests_order, tests_quote, tests_enable, tests_withdraw, tests_clock, tests_width}
use Rattle.market.specs.Calls.{refuse, unless, ticket_for, priced, enter_by, taken_nbbo, taken_event, taken_enable, taken_withdraw, taken_clock, taken_width, screening, taken_order, order_by, refused_quote, taken_quote, quote_by, step}
use Rattle.laws.specs.Shutouts.{by_screen}

-- ---- tables of tests

-- a call that passes the table met none of its tests
abbrev pub NoneMet : List (Bool × Refusal) → Type 0
NoneMet [] = Unit {0}
NoneMet (t ∷ ts) = (t.0 ≡ false) × NoneMet ts

pub none_met : (ts : List (Bool × Refusal)) → first ts ≡ None → NoneMet ts
none_met [] e = tt
none_met (t ∷ ts) e = by t.0 refl e (none_met ts)
  where
    by : (b : Bool) → t.0 ≡ b → cond b (Some t.1) (first ts) ≡ None → (first ts ≡ None → NoneMet ts) → NoneMet (t ∷ ts)
    by true z e more = absurd (let y : ◌≡◌ {A = ℕ} 0 1 = cc in omega arith)
    by false z e more = (z, more e)

-- a refusal by a table is that of a test that was met
abbrev pub EachTest : (Bool → Refusal → Type 0) → List (Bool × Refusal) → Type 0
EachTest P [] = Unit {0}
EachTest P (t ∷ ts) = P t.0 t.1 × EachTest P ts

pub test_met : (P : Bool → Refusal → Type 0) (ts : List (Bool × Refusal)) (r : Refusal) → EachTest P ts → first ts ≡ Some r → P true r
test_met P [] r h e = absurd (let y : ◌≡◌ {A = ℕ} 0 1 = cc in omega arith)
test_met P (t ∷ ts) r h e = by t.0 refl e (test_met P ts r h.1)
  where
    by : (b : Bool) → t.0 ≡ b → cond b (Some t.1) (first ts) ≡ Some r → (first ts ≡ Some r → P true r) → P true r
    by true z e more = let same : t.1 ≡ r = cc in subst (P true) same (subst (λ (y : Bool). P y t.1) z h.0)
    by false z e more = more e

-- ---- what an order or quote brings

abbrev pub order_ticket : State → Order → Ticket
order_ticket st o = ticket_for st o.series o.side (limit_of o.side o.price) o.size None

-- its pricing as a day order
abbrev pub day_pricing : State → Order → Pricing
day_pricing st o = priced (st.width o.series) o.side (limit_of o.side o.price) (st.nbbo o.series)

abbrev pub order_entered : State → Order → Desk
order_entered st o = enter_by o.condition (second_after st.clock) (order_ticket st o) (day_pricing st o) (desk st.rows)

-- by its condition
pub either_entered : (P : Desk → Type 0) (st : State) (o : Order) → P (enter (second_after st.clock) (order_ticket st o) (day_pricing st o) (desk st.rows)) → P (enter_now (second_after st.clock) (order_ticket st o) (desk st.rows)) → P (order_entered st o)
either_entered P st o day now = by o.condition
  where
    by : (c : Condition) → P (enter_by c (second_after st.clock) (order_ticket st o) (day_pricing st o) (desk st.rows))
    by Day = day
    by Immediate = now

abbrev pub quote_ticket : State → Quote → Ticket
quote_ticket st q = ticket_for st q.series q.side q.price q.size (Some q.maker)

-- its maker's older quote on that side is withdrawn
abbrev pub side_cleared : State → Quote → Desk
side_cleared st q = pull (on_side q.maker q.series q.side) (desk st.rows)

-- all quotes of its maker in the class are
abbrev pub class_cleared : Making → State → Quote → Desk
class_cleared m st q = pull (in_class m q.maker (class_of m q.series)) (desk st.rows)

abbrev pub quote_entered : State → Quote → Desk
quote_entered st q = enter (second_after st.clock) (quote_ticket st q) (AtLimit q.price) (side_cleared st q)

-- ---- the calls

-- the screen of the order passes it, if it has one
abbrev pub OrderPasses : Making → State → Order → Type 0
OrderPasses m st o = screening m st o.series o.side o.price ≡ passes

abbrev pub QuotePasses : Making → State → Quote → Type 0
QuotePasses m st q = m.quotes (view_in m st q.series) q.side q.price ≡ passes

-- as far as a refusal of the quote reaches
abbrev pub Reaches : Making → State → Quote → Extent → Type 0
Reaches m st q x = m.extent (view_in m st q.series) q.side q.price ≡ x

-- a refusal that withdraws nothing and shuts nobody out: that of a quote is no screen's
abbrev pub Mild : Call → Refusal → Type 0
Mild (call.Quote q) r = by_screen r ≡ false
Mild other r = Unit {0}

module _ (m : Making) (st : State) (room : Room) where
  -- the call comes to the outcome
  pub data Came : Call → Outcome → Type 0 where
    refused : {c : Call} (r : Refusal) → Mild c r → Came c (refuse st r)
    nbbo_set : (s : ℕ) (b : Nbbo) → NoneMet (tests_nbbo m st s b) → Came (call.Nbbo s b) (taken_nbbo m st s b)
    event_told : (c : ℕ) (e : Event) → Came (call.Event c e) (taken_event m st c e)
    maker_enabled : (k c : ℕ) → Came (call.Enable k c) (taken_enable m st k c)
    width_set : (u : Update) → Came (call.Width u) (taken_width m st u.series u.width)
    row_withdrawn : (n : ℕ) → Came (call.Withdraw n) (taken_withdraw m st n)
    clock_moved : (ms : ℕ) → NoneMet (tests_clock m st room ms) → Came (call.Clock ms) (taken_clock m st ms)
    order_taken : (o : Order) → NoneMet (tests_order m st room o) → OrderPasses m st o → Came (call.Order o) (taken_order m st o)
    quote_taken : (q : Quote) → NoneMet (tests_quote m st room q) → QuotePasses m st q → Came (call.Quote q) (taken_quote m st q)
    -- a quote that its screen refuses
    side_pulled : (q : Quote) (why : Cause) → Reaches m st q OneSide → Came (call.Quote q) (refused_quote m st OneSide why q)
    class_pulled : (q : Quote) (why : Cause) → Reaches m st q WholeClass → Came (call.Quote q) (refused_quote m st WholeClass why q)

  tested : (c : Call) (ts : List (Bool × Refusal)) (o : Outcome) → ((r : Refusal) → first ts ≡ Some r → Mild c r) → (NoneMet ts → Came c o) → Came c (unless (first ts) st o)
  tested c ts o mild go = by (first ts) refl
    where
      by : (q : Option Refusal) → first ts ≡ q → Came c (unless q st o)
      by None e = go (none_met ts e)
      by (Some r) e = refused r (mild r e)

  order_came : (o : Order) → NoneMet (tests_order m st room o) → (v : Verdict) → screening m st o.series o.side o.price ≡ v → Came (call.Order o) (order_by m st v o)
  order_came o met (Ok pass) e = order_taken o met e
  order_came o met (Err why) e = refused (Screen why) tt

  pulled_came : (q : Quote) (why : Cause) (x : Extent) → Reaches m st q x → Came (call.Quote q) (refused_quote m st x why q)
  pulled_came q why OneSide e = side_pulled q why e
  pulled_came q why WholeClass e = class_pulled q why e

  quote_came : (q : Quote) → NoneMet (tests_quote m st room q) → (v : Verdict) → m.quotes (view_in m st q.series) q.side q.price ≡ v → Came (call.Quote q) (quote_by m st v q)
  quote_came q met (Ok pass) e = quote_taken q met e
  quote_came q met (Err why) e = pulled_came q why (m.extent (view_in m st q.series) q.side q.price) refl

  pub came : (c : Call) → Came c (step m st room c)
  came (call.Nbbo s b) = tested (call.Nbbo s b) (tests_nbbo m st s b) (taken_nbbo m st s b) (λ r e. tt) (λ met. nbbo_set s b met)
  came (call.Event c e) = tested (call.Event c e) (tests_event m st c e) (taken_event m st c e) (λ r z. tt) (λ met. event_told c e)
  came (call.Order o) = tested (call.Order o) (tests_order m st room o) (order_by m st (screening m st o.series o.side o.price) o) (λ r e. tt) (λ met. order_came o met (screening m st o.series o.side o.price) refl)
  came (call.Quote q) =
      tested (call.Quote q) (tests_quote m st room q) (quote_by m st (m.quotes (view_in m st q.series) q.side q.price) q)
      (λ r e. test_met (λ b x. by_screen x ≡ false) (tests_quote m st room q) r (refl, (refl, (refl, (refl, (refl, (refl, (refl, tt))))))) e)
      (λ met. quote_came q met (m.quotes (view_in m st q.series) q.side q.price) refl)
  came (call.Enable k c) = tested (call.Enable k c) (tests_enable m st k c) (taken_enable m st k c) (λ r e. tt) (λ met. maker_enabled k c)
  came (call.Withdraw n) = tested (call.Withdraw n) (tests_withdraw m st room n) (taken_withdraw m st n) (λ r e. tt) (λ met. row_withdrawn n)
  came (call.Clock ms) = tested (call.Clock ms) (tests_clock m st room ms) (taken_clock m st ms) (λ r e. tt) (λ met. clock_moved ms met)
  came (call.Width u) = tested (call.Width u) (tests_width m st u) (taken_width m st u.series u.width) (λ r e. tt) (λ met. width_set u)

-- T moves the clock on by a second at most
pub within_second : (m : Making) (st : State) (room : Room) (ms : ℕ) → NoneMet (tests_clock m st room ms) → ms ≤ 1000
within_second m st room ms met = ltb-false 1000 ms (or_parts (ltb 1000 ms) _ met.1.0).0
