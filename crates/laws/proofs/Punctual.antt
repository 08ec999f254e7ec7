-- Between calls, each held order is due after the clock and within a second of it, at the moment that the history gives it; and what
-- moves has fallen due.
use Rattle.std.proofs.Common.{◌≡◌, ℕ, zero, suc, ◌+◌, ◌<◌, ◌≤◌, Bool, true, false, eqb, List, [], ◌∷◌, ◌++◌, length, Some, None, Option, sym, refl, subst, arith}
use Rattle.std.specs.List.{AllByRecursion}
use Rattle.std.proofs.lemmas.Bool.{cond_both}
use Rattle.values.specs.declared.call.Call.{Call}
use Rattle.values.specs.declared.call.Order.{Order}
use Rattle.values.specs.declared.call.Quote.{Quote}
use Rattle.values.specs.declared.reference.Reference.{Reference}
use Rattle.screens.specs.Screens.{Lawful}
use Rattle.collars.specs.declared.pricing.Pricing.{Pricing}
use Rattle.collars.specs.declared.pricing.Pricing.TheVariants.{AtLimit}
use Rattle.collars.specs.Pricings.{reach_of, display_of as restsAt, collar_of}
use Rattle.book.specs.declared.row.Row.{Row}
use Rattle.book.specs.declared.row.Standing.{Standing}
use Rattle.book.specs.declared.row.Standing.TheVariants.{Plain, Held}
use Rattle.book.specs.declared.row.Trade.{Trade}
use Rattle.book.specs.Rows.{numbered, without, row_of, once_moved, moved_to}
use Rattle.book.specs.Taking.{Fill, take, Has}
use Rattle.trading.specs.declared.ticket.Ticket.{Ticket}
use Rattle.trading.specs.Journals.{Event, Shown, Moved, Traded, Withdrawn, noting}
use Rattle.trading.specs.Desks.{Desk, taker_of, serve_row, serve, pull, second_after, move_on, turns, advance, taker, last_price, standing_by, row_for, show_first, rest, enter, enter_now}
use Rattle.trading.specs.Doing.{desk}
use Rattle.trading.proofs.Sides.{clash}
use Rattle.trading.proofs.Faces.{row_of_has, Lacks}
use Rattle.trading.proofs.Resting.{Rested, serve_rested, onwards, moved_rows, move_on_sane, move_on_others}
use Rattle.trading.proofs.Timings.{due_length, DueIn, Timed, has_timed, insert_timed, without_timed, take_timed, serve_timed, turns_clocked, none_due}
use Rattle.market.specs.States.{Making, State, Room, Answer, Outcome, class_of}
use Rattle.market.specs.Tests.{on_side, in_class}
use Rattle.market.specs.Calls.{step}
use Rattle.laws.specs.Histories.{History}
use Rattle.laws.specs.Runs.{Asked, entry_of}
use Rattle.laws.specs.Moves.{is_clock}
use Rattle.laws.specs.Moments.{due_in, due_of}
use Rattle.laws.proofs.Keeping.{serve_keeps, advance_keeps}
use Rattle.laws.proofs.Outcomes.{order_ticket, day_pricing, order_entered, quote_ticket, side_cleared, quote_entered, OrderPasses, QuotePasses, Came, refused, row_withdrawn, clock_moved, order_taken, quote_taken, side_pulled, class_pulled, came, within_second}
use Rattle.trading.proofs.Gone.{pull_in}
use Rattle.trading.proofs.Keeping.{pull_timed}
use Rattle.laws.proofs.Steps.{Kept, cleared_settled, order_enters, quote_rests}
use Rattle.laws.proofs.Notes.{Proper, came_noted}
use Rattle.laws.proofs.Dated.{DatedAs, at, Dated, serve_dated, pull_dated, move_on_dated, enter_dated, enter_now_dated}

-- each move of a journal was due, after the moment low and by the moment k
module _ (k : ℕ) (was : ℕ → Option ℕ) (low : ℕ) where
  unfoldable pub AllDue : List Event → Type 0
  AllDue [] = Unit {0}
  AllDue (Shown i p ∷ j) = AllDue j
  AllDue (Moved i p ∷ j) = ((x : ℕ) × (at k was i j ≡ Some x) × (low < x) × (x ≤ k)) × AllDue j
  AllDue (Traded t ∷ j) = AllDue j
  AllDue (Withdrawn w ∷ j) = AllDue j

  -- a call that is no T moves nothing
  pub none_moved : (c : Call) (a : Answer) → is_clock c ≡ false → (j : List Event) → AllByRecursion (Proper c a) j → AllDue j
  unfolding AllDue
  none_moved c a off [] h = tt
  none_moved c a off (Shown i p ∷ j) h = none_moved c a off j h.1
  none_moved c a off (Moved i p ∷ j) h = absurd (clash (is_clock c) h.0 off)
  none_moved c a off (Traded t ∷ j) h = none_moved c a off j h.1
  none_moved c a off (Withdrawn w ∷ j) h = none_moved c a off j h.1

  pub due_at_lem : (later : List Event) (n p : ℕ) (earlier : List Event) → AllDue (later ++ (Moved n p ∷ earlier)) → (x : ℕ) × (at k was n earlier ≡ Some x) × (low < x) × (x ≤ k)
  unfolding AllDue
  due_at_lem [] n p earlier a = a.0
  due_at_lem (Shown i q ∷ later) n p earlier a = due_at_lem later n p earlier a
  due_at_lem (Moved i q ∷ later) n p earlier a = due_at_lem later n p earlier a.1
  due_at_lem (Traded t ∷ later) n p earlier a = due_at_lem later n p earlier a
  due_at_lem (Withdrawn w ∷ later) n p earlier a = due_at_lem later n p earlier a

  noted_due : (ts : List Trade) (j : List Event) → AllDue j → AllDue (noting ts j)
  unfolding AllDue
  noted_due [] j h = h
  noted_due (t ∷ ts) j h = noted_due ts j h

  serve_due : (due s : ℕ) (d : Desk) → AllDue d.journal → AllDue (serve due s d).journal
  unfolding serve_row
  serve_due due s d h = serve_keeps (λ x. AllDue x.journal) due s (λ x r c m has how p. noted_due (take due (taker_of r c) r.size x.rows []).trades x.journal p) d h

  -- ---- the clock moves on

  module _ (soon : k ≤ low + 1000) (late : low ≤ k) where
    pub record Ticking (top : ℕ) (d : Desk) : Type 0 where
      pub rested : Rested top d.rows
      pub timed : Timed low (k + 1000) d.rows
      pub dated : Dated k was d.journal d.rows
      pub fallen : AllDue d.journal

    moved_timed : {top : ℕ} (d : Desk) → Ticking top d → (r : Row) (c m : ℕ) → row_of r.number d.rows ≡ Some r → r.standing ≡ Held c m → m ≤ k → Timed low (k + 1000) (move_on r c m d).rows
    moved_timed d ok r c m is how due =
        let has = row_of_has r.number d.rows r is in
        let was_in : DueIn low (k + 1000) (Held c m) = subst (DueIn low (k + 1000)) how (has_timed low (k + 1000) r d.rows has ok.timed) in
        let to = onwards r c in
        let x = moved_to to (second_after m) r in
        subst (Timed low (k + 1000)) (sym (moved_rows d ok.rested r c m m is how))
        (insert_timed low (k + 1000) x (without r.number d.rows)
        (subst (λ (y : Standing). DueIn low (k + 1000) (once_moved (eqb to r.limit) (second_after m) y)) (sym how) (by (eqb to r.limit) (let w = was_in.0 in omega arith) (omega arith)))
        (without_timed low (k + 1000) r.number d.rows ok.timed))
      where
        by : (b : Bool) → low < second_after m → second_after m ≤ k + 1000 → DueIn low (k + 1000) (once_moved b (second_after m) (Held c m))
        by true a z = tt
        by false a z = (a, z)

    moved_ticking : {top : ℕ} (d : Desk) (r : Row) (c m : ℕ) → row_of r.number d.rows ≡ Some r → r.standing ≡ Held c m → m ≤ k → Ticking top d → Ticking top (serve (second_after k) r.series (move_on r c m d))
    unfolding move_on AllDue Dated
    moved_ticking d r c m is how due ok =
        let has = row_of_has r.number d.rows r is in
        let sane = move_on_sane d ok.rested r c m m is how in
        let was_in : DueIn low (k + 1000) (Held c m) = subst (DueIn low (k + 1000)) how (has_timed low (k + 1000) r d.rows has ok.timed) in
        let was_due : at k was r.number d.journal ≡ Some m = subst (λ (x : Standing). DatedAs x (at k was r.number d.journal)) how (ok.dated r has) in
        record {
          rested = serve_rested (move_on r c m d) (second_after k) r.series sane (move_on_others d ok.rested r c m m is how);
          timed = serve_timed low (k + 1000) (second_after k) (omega arith) (omega arith) r.series (move_on r c m d) (moved_timed d ok r c m is how due);
          dated = serve_dated k was r.series (move_on r c m d) sane (move_on_dated k was d ok.rested r c m is how ok.dated);
          fallen = serve_due (second_after k) r.series (move_on r c m d) ((m, was_due, was_in.0, due), ok.fallen);
        }

    pub advance_ticking : {top : ℕ} (d : Desk) → Ticking top d → Ticking top (advance k d)
    advance_ticking {top} d ok = advance_keeps (Ticking top) k (λ d p. p.rested.0.distinct) (λ d r c m is how due p. moved_ticking d r c m is how due p) d ok

    pub widen : (xs : List Row) → Timed low (low + 1000) xs → Timed low (k + 1000) xs
    widen [] t = tt
    widen (x ∷ xs) t = (by x.standing t.0, widen xs t.1)
      where
        by : (s : Standing) → DueIn low (low + 1000) s → DueIn low (k + 1000) s
        by (Held c m) d = (d.0, let z = d.1 in omega arith)
        by other d = tt

    -- and afterwards nobody is due
    pub advance_timed : {top : ℕ} (d : Desk) → Rested top d.rows → Timed low (low + 1000) d.rows → Timed k (k + 1000) (advance k d).rows
    unfolding advance
    advance_timed d ok t =
        let wide = widen d.rows t in
        let c = turns_clocked low (k + 1000) k soon late (omega arith) (length d.rows) d ok (wide, due_length k d.rows) in
        none_due low (k + 1000) k (turns (length d.rows) k d).rows c.0 c.1

-- ---- the calls

pub record Punctual (st : State) (h : History) : Type 0 where
  pub timed : Timed st.clock (st.clock + 1000) st.rows
  pub dated : (r : Row) → Has r st.rows → DatedAs r.standing (due_of r.number h)

-- what a call comes to, by the clock as it leaves it
pub record Prompt (h : History) (o : Outcome) : Type 0 where
  pub timed : Timed o.next.clock (o.next.clock + 1000) o.next.rows
  pub dated : Dated o.next.clock (λ n. due_of n h) o.journal o.next.rows

held_timed : (k display limit : ℕ) (collar maker : Option ℕ) → DueIn k (k + 1000) (standing_by (k + 1000) display limit collar maker)
held_timed k display limit None None = tt
held_timed k display limit (Some c) None = cond_both (eqb display limit) Plain (Held c (k + 1000)) (DueIn k (k + 1000)) (λ z. tt) (λ z. (omega arith, omega arith))
held_timed k display limit collar (Some m) = tt

rest_timed : (k : ℕ) (t : Ticket) (p : Pricing) (f : Fill) (n : ℕ) (j : List Event) → Timed k (k + 1000) f.rows → Timed k (k + 1000) (rest (k + 1000) t p f n j).rows
unfolding rest
rest_timed k t p f zero j h = h
rest_timed k t p f (suc n) j h = let s = restsAt p (last_price f.trades) in insert_timed k (k + 1000) (row_for (k + 1000) t p s (suc n)) f.rows (held_timed k s t.limit (collar_of p) t.maker) h

enter_timed : (k : ℕ) (t : Ticket) (p : Pricing) (d : Desk) → Timed k (k + 1000) d.rows → Timed k (k + 1000) (enter (k + 1000) t p d).rows
unfolding enter
enter_timed k t p d h =
    let f = take (k + 1000) (taker t (reach_of p)) t.size d.rows [] in
    serve_timed k (k + 1000) (k + 1000) (omega arith) (omega arith) t.series (rest (k + 1000) t p f f.left (noting f.trades (show_first t p d.journal)))
    (rest_timed k t p f f.left (noting f.trades (show_first t p d.journal)) (take_timed k (k + 1000) (k + 1000) (omega arith) (omega arith) (taker t (reach_of p)) d.rows t.size [] h))

module _ (m : Making) (refs : ℕ → Reference) {st : State} {h : History} (ok : Kept m refs st h) (on : Punctual st h) where
  -- a desk where nothing was noted yet
  start_dated : (k : ℕ) → Dated k (λ n. due_of n h) [] st.rows
  unfolding Dated due_in
  start_dated k r i = on.dated r i

  -- a call that leaves the clock leaves each held order due within a second of it
  abbrev InTime : Desk → Type 0
  InTime d = Timed st.clock (st.clock + 1000) d.rows × Dated st.clock (λ n. due_of n h) d.journal d.rows

  no_new : Lacks st.next st.rows
  no_new f i z = let b = ok.settled.0.0.numbered f i in let n = ok.next in omega arith

  order_in_time : Lawful m.orders → (o : Order) → OrderPasses m st o → InTime (order_entered st o)
  unfolding enter_now
  order_in_time law o pass =
      let t = order_ticket st o in
      let p = day_pricing st o in
      order_enters m refs ok InTime o law pass
      (λ day sane. (enter_timed st.clock t p (desk st.rows) on.timed, enter_dated st.clock (λ n. due_of n h) (desk st.rows) ok.settled.0.0.distinct t p no_new (start_dated st.clock) sane)) (
        take_timed st.clock (st.clock + 1000) (st.clock + 1000) (omega arith) (omega arith) (taker t t.limit) st.rows t.size [] on.timed,
        enter_now_dated st.clock (λ n. due_of n h) (desk st.rows) ok.settled.0.0.distinct t no_new (start_dated st.clock),
      )

  pulled_in_time : (p : Row → Bool) → InTime (pull p (desk st.rows))
  pulled_in_time p = (pull_timed st.clock (st.clock + 1000) p (desk st.rows) on.timed, pull_dated st.clock (λ n. due_of n h) p (desk st.rows) (start_dated st.clock))

  quote_in_time : Lawful m.quotes → (q : Quote) → QuotePasses m st q → st.shut q.maker (class_of m q.series) ≡ false → InTime (quote_entered st q)
  quote_in_time law q pass free =
      let mine = on_side q.maker q.series q.side in
      let d = side_cleared st q in
      let t = quote_ticket st q in
      let z = pulled_in_time mine in (
        enter_timed st.clock t (AtLimit q.price) d z.0,
        enter_dated st.clock (λ n. due_of n h) d (cleared_settled m refs ok mine).0.0.distinct t (AtLimit q.price) (λ f i. no_new f (pull_in mine (desk st.rows) f i)) z.1 (quote_rests m refs ok q law pass free),
      )

  -- T finds each order due after the clock, and leaves it so
  clock_ticking : (ms : ℕ) → ms ≤ 1000 → (let k = st.clock + ms in let d = advance k (desk st.rows) in Timed k (k + 1000) d.rows × Dated k (λ n. due_of n h) d.journal d.rows × AllDue k (λ n. due_of n h) st.clock d.journal)
  unfolding AllDue
  clock_ticking ms le =
      let k = st.clock + ms in
      let t = advance_ticking k (λ n. due_of n h) st.clock (omega arith) (omega arith) (desk st.rows) (record {
        rested = ok.settled.0;
        timed = widen k (λ n. due_of n h) st.clock (omega arith) (omega arith) st.rows on.timed;
        dated = start_dated k;
        fallen = tt;
      }) in
      (advance_timed k (λ n. due_of n h) st.clock (omega arith) (omega arith) (desk st.rows) ok.settled.0 on.timed, t.dated, t.fallen)

  prompt : (o : Outcome) → Timed o.next.clock (o.next.clock + 1000) o.next.rows × Dated o.next.clock (λ n. due_of n h) o.journal o.next.rows → Prompt h o
  prompt o p = record { timed = p.0; dated = p.1 }

  came_prompt : Lawful m.orders → Lawful m.quotes → {room : Room} {c : Call} {o : Outcome} → Came m st room c o → Prompt h o
  came_prompt lo lq (order_taken o met pass) = prompt _ (order_in_time lo o pass)
  came_prompt lo lq (quote_taken q met pass) = prompt _ (quote_in_time lq q pass met.1.1.1.1.1.1.0)
  came_prompt lo lq (side_pulled q why extent) = prompt _ (pulled_in_time (on_side q.maker q.series q.side))
  came_prompt lo lq (class_pulled q why extent) = prompt _ (pulled_in_time (in_class m q.maker (class_of m q.series)))
  came_prompt lo lq (row_withdrawn n) = prompt _ (pulled_in_time (numbered n))
  came_prompt lo lq {room} (clock_moved ms met) = let p = clock_ticking ms (within_second m st room ms met) in prompt _ (p.0, p.1)
  came_prompt lo lq other = prompt _ (on.timed, start_dated st.clock)

  pub step_prompt : Lawful m.orders → Lawful m.quotes → (room : Room) (c : Call) → Prompt h (step m st room c)
  step_prompt lo lq room c = came_prompt lo lq (came m st room c)

  -- ---- what moves has fallen due

  came_fallen : {room : Room} {c : Call} {o : Outcome} → Came m st room c o → AllDue o.next.clock (λ n. due_of n h) st.clock o.journal
  unfolding AllDue
  came_fallen (refused r mild) = tt
  came_fallen {room} (clock_moved ms met) = (clock_ticking ms (within_second m st room ms met)).2
  came_fallen {room} {c} {o} other = none_moved o.next.clock (λ n. due_of n h) st.clock c o.answer refl o.journal (came_noted m st ok.settled.0 other)

  pub step_fallen : (room : Room) (c : Call) → AllDue (step m st room c).next.clock (λ n. due_of n h) st.clock (step m st room c).journal
  step_fallen room c = came_fallen (came m st room c)

  -- in the words of the history
  pub punctual_next : (a : Asked) (o : Outcome) → Prompt h o → Kept m refs o.next (entry_of a o ∷ h) → Punctual o.next (entry_of a o ∷ h)
  unfolding due_of Dated
  punctual_next a o p next = record {
    timed = p.timed;
    dated = λ r i. subst (λ (y : ℕ). DatedAs r.standing (due_in r.number y o.journal (due_of r.number h))) next.clock (p.dated r i);
  }
