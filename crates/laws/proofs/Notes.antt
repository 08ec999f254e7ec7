-- Which calls bring which events.
use Rattle.std.proofs.Common.{◌≡◌, ℕ, zero, suc, ◌+◌, Bool, true, List, [], ◌∷◌, Some, None, Ok, Err, refl}
use Rattle.std.specs.List.{AllByRecursion}
use Rattle.std.proofs.lemmas.Bool.{eq-eqb}
use Rattle.values.specs.declared.call.Call.{Call}
use Rattle.values.specs.declared.call.Call.TheVariants as call
use Rattle.values.specs.declared.call.Quote.{Quote}
use Rattle.values.specs.declared.order.Condition.{Condition}
use Rattle.values.specs.declared.order.Condition.TheVariants.{Day, Immediate}
use Rattle.values.specs.declared.refusal.Refusal.TheVariants.{Screen}
use Rattle.collars.specs.declared.pricing.Pricing.{Pricing}
use Rattle.collars.specs.declared.pricing.Pricing.TheVariants.{AtLimit, Wide, Narrow}
use Rattle.book.specs.declared.row.Row.{Row}
use Rattle.book.specs.declared.row.Trade.{Trade}
use Rattle.book.specs.declared.row.Withdrawal.{Withdrawal}
use Rattle.book.specs.Rows.{numbered}
use Rattle.book.specs.Taking.{Fill, take}
use Rattle.trading.specs.declared.ticket.Ticket.{Ticket}
use Rattle.trading.specs.Journals.{Event, Shown, Moved, Traded, Withdrawn, noting}
use Rattle.trading.specs.Desks.{Desk, serve_row, serve, pull, second_after, move_on, advance, taker, show_first, show_last, rest, enter, lapse, enter_now}
use Rattle.trading.specs.Doing.{desk}
use Rattle.trading.proofs.Resting.{Rested, serve_rested, move_on_sane, move_on_others}
use Rattle.market.specs.States.{Making, State, Room, Answer, Outcome, class_of}
use Rattle.market.specs.Tests.{on_side, in_class}
use Rattle.market.specs.Calls.{enter_by, step}
use Rattle.laws.specs.Admissions.{admits}
use Rattle.laws.specs.Moves.{is_clock}
use Rattle.laws.specs.Refusals.{Withdrawals}
use Rattle.laws.proofs.Outcomes.{order_ticket, day_pricing, quote_ticket, side_cleared, Came, row_withdrawn, clock_moved, order_taken, quote_taken, side_pulled, class_pulled, came}
use Rattle.laws.proofs.Keeping.{serve_keeps, pull_keeps, advance_keeps}

-- what a call with an answer may note
abbrev pub Proper : Call → Answer → Event → Type 0
Proper c a (Shown n p) = admits n (record { call = c; room = record { trades = 0; withdrawals = 0 }; answer = a; journal = [] }) ≡ true
Proper c a (Moved n p) = is_clock c ≡ true
Proper c a (Traded t) = Unit {0}
Proper c a (Withdrawn w) = Unit {0}

-- P holds of every trade and every withdrawal
module _ (P : Event → Type 0) (traded : (t : Trade) → P (Traded t)) (gone : (w : Withdrawal) → P (Withdrawn w)) where
  abbrev Fine : Desk → Type 0
  Fine d = AllByRecursion P d.journal

  noted : (ts : List Trade) (j : List Event) → AllByRecursion P j → AllByRecursion P (noting ts j)
  noted [] j h = h
  noted (t ∷ ts) j h = (traded t, noted ts j h)

  served : (due s : ℕ) (d : Desk) → Fine d → Fine (serve due s d)
  unfolding serve_row
  served due s d h = serve_keeps Fine due s (λ d r c m has how p. noted _ d.journal p) d h

  pub pulled : (q : Row → Bool) (d : Desk) → Fine d → Fine (pull q d)
  pulled q d h = pull_keeps Fine q (λ d r has z p. (gone _, p)) d h

  module _ (moved : (n p : ℕ) → P (Moved n p)) where
    pub advanced : {top : ℕ} (k : ℕ) (d : Desk) → Rested top d.rows → Fine d → Fine (advance k d)
    unfolding move_on
    advanced {top} k d ok h =
        (advance_keeps (λ d. Rested top d.rows × Fine d) k (λ d p. p.0.0.distinct)
        (λ d r c m at how due p. (serve_rested (move_on r c m d) (second_after k) r.series (move_on_sane d p.0 r c m m at how) (move_on_others d p.0 r c m m at how), served (second_after k) r.series (move_on r c m d) (moved r.number _, p.1)))
        d (ok, h)).1

  module _ (t : Ticket) (shown : (p : ℕ) → P (Shown t.number p)) where
    firstly : (p : Pricing) (j : List Event) → AllByRecursion P j → AllByRecursion P (show_first t p j)
    firstly (AtLimit l) j h = h
    firstly (Wide x reach c) j h = (shown x, h)
    firstly (Narrow x reach c) j h = h

    lastly : (p : Pricing) (s : ℕ) (j : List Event) → AllByRecursion P j → AllByRecursion P (show_last t p s j)
    lastly (AtLimit l) s j h = (shown s, h)
    lastly (Wide x reach c) s j h = h
    lastly (Narrow x reach c) s j h = (shown s, h)

    rested : (due : ℕ) (p : Pricing) (f : Fill) (n : ℕ) (j : List Event) → AllByRecursion P j → Fine (rest due t p f n j)
    unfolding rest
    rested due p f zero j h = h
    rested due p f (suc n) j h = lastly p _ j h

    pub entered : (due : ℕ) (p : Pricing) (d : Desk) → Fine d → Fine (enter due t p d)
    unfolding enter
    entered due p d h = served due t.series _ (rested due p _ _ _ (noted _ _ (firstly p d.journal h)))

    lapsed : (n : ℕ) (j : List Event) → AllByRecursion P j → AllByRecursion P (lapse t.number n j)
    lapsed zero j h = h
    lapsed (suc n) j h = (gone _, h)

    pub entered_by : (c : Condition) (due : ℕ) (p : Pricing) (d : Desk) → Fine d → Fine (enter_by c due t p d)
    unfolding enter_now
    entered_by Day due p d h = entered due p d h
    entered_by Immediate due p d h = let f = take due (taker t t.limit) t.size d.rows [] in lapsed f.left (noting f.trades d.journal) (noted f.trades d.journal h)

-- ---- the calls

abbrev Noted : Call → Outcome → Type 0
Noted c o = AllByRecursion (Proper c o.answer) o.journal

module _ (m : Making) (st : State) {top : ℕ} (ok : Rested top st.rows) where
  quote_pulled : (q : Quote) (a : Answer) (p : Row → Bool) → AllByRecursion (Proper (call.Quote q) a) (pull p (desk st.rows)).journal
  quote_pulled q a p = pulled (Proper (call.Quote q) a) (λ t. tt) (λ w. tt) p (desk st.rows) tt

  pub came_noted : {room : Room} {c : Call} {o : Outcome} → Came m st room c o → Noted c o
  came_noted (order_taken o met pass) =
      entered_by (Proper (call.Order o) (Ok (Some st.next))) (λ t. tt) (λ w. tt) (order_ticket st o) (λ p. eq-eqb st.next st.next refl) o.condition (second_after st.clock) (day_pricing st o) (desk st.rows) tt
  came_noted (quote_taken q met pass) =
      entered (Proper (call.Quote q) (Ok (Some st.next))) (λ t. tt) (λ w. tt) (quote_ticket st q) (λ p. eq-eqb st.next st.next refl) (second_after st.clock) (AtLimit q.price) (side_cleared st q)
      (quote_pulled q (Ok (Some st.next)) (on_side q.maker q.series q.side))
  came_noted (side_pulled q why extent) = quote_pulled q (Err (Screen why)) (on_side q.maker q.series q.side)
  came_noted (class_pulled q why extent) = quote_pulled q (Err (Screen why)) (in_class m q.maker (class_of m q.series))
  came_noted (row_withdrawn n) = pulled (Proper (call.Withdraw n) (Ok None)) (λ t. tt) (λ w. tt) (numbered n) (desk st.rows) tt
  came_noted (clock_moved ms met) = advanced (Proper (call.Clock ms) (Ok None)) (λ t. tt) (λ w. tt) (λ n p. refl) (st.clock + ms) (desk st.rows) ok tt
  came_noted other = tt

  pub step_noted : (room : Room) (c : Call) → Noted c (step m st room c)
  step_noted room c = came_noted (came m st room c)

-- what is withdrawn from a desk where nothing was noted is all that is noted
pub pulled_alone : (q : Row → Bool) (d : Desk) → Withdrawals d.journal → Withdrawals (pull q d).journal
pulled_alone q d h = pull_keeps (λ d. Withdrawals d.journal) q (λ d r has z p. p) d h
