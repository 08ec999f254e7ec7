-- The book stays within its 256 rows, and a call within the 256 trades and 128 withdrawals that it asks room for.
use Rattle.std.proofs.Common.{◌≡◌, ℕ, ◌+◌, ◌<◌, ◌≤◌, Bool, true, false, not, ◌&&◌, eqb, leb, ◌⊎◌, List, [], ◌∷◌, length, sym, refl, ap, ◌∙◌, subst, ⊎_elim, arith}
use Rattle.std.proofs.lemmas.Bool.{leb-false, eqb-true, eq-eqb, and_parts, and_from, or_parts}
use Rattle.values.specs.declared.call.Call.{Call}
use Rattle.values.specs.declared.call.Order.{Order}
use Rattle.values.specs.declared.call.Quote.{Quote}
use Rattle.values.specs.declared.order.Condition.{Condition}
use Rattle.values.specs.declared.reference.Reference.{Reference}
use Rattle.values.specs.declared.side.Side.{Side}
use Rattle.screens.specs.Screens.{Lawful}
use Rattle.collars.specs.declared.pricing.Pricing.TheVariants.{AtLimit}
use Rattle.book.specs.declared.row.Row.{Row}
use Rattle.book.specs.Rows.{same_side, numbered}
use Rattle.book.specs.Taking.{take}
use Rattle.trading.specs.Journals.{trades_of, withdrawals_of, noting}
use Rattle.trading.specs.Desks.{Desk, pull, second_after, advance, taker, row_for, enter, lapse, enter_now}
use Rattle.trading.specs.Doing.{desk, count}
use Rattle.trading.proofs.Sides.{clash, same_self}
use Rattle.trading.proofs.Faces.{Role, quote, Face, face, In, has_in, take_in}
use Rattle.trading.proofs.Volumes.{withdrawals_noted}
use Rattle.market.specs.States.{Making, State, Room, Outcome, class_of}
use Rattle.market.specs.Tests.{unnamed, unknown, is_day, on_side, in_class, is_mine}
use Rattle.market.specs.Calls.{step}
use Rattle.laws.specs.Histories.{History}
use Rattle.laws.specs.Runs.{Asked, run}
use Rattle.laws.specs.Capacity.{EveryRunRoomy}
use Rattle.laws.proofs.Outcomes.{order_ticket, day_pricing, order_entered, either_entered, quote_ticket, side_cleared, class_cleared, quote_entered, OrderPasses, QuotePasses, Came, row_withdrawn, clock_moved, order_taken, quote_taken, side_pulled, class_pulled, came}
use Rattle.trading.proofs.Gone.{pull_in, pull_count, pull_gone}
use Rattle.trading.proofs.Noted.{advance_same, enter_same, pull_same}
use Rattle.laws.proofs.Pulls.{mine, mine_role}
use Rattle.laws.proofs.Steps.{Kept, cleared_settled, order_enters, quote_rests}
use Rattle.laws.proofs.Runs.{run_kept}
use Rattle.laws.proofs.Volumes.{noted_length, take_trades, take_rows, advance_volume, enter_volume, lapse_trades, count_all, pull_length}
use Rattle.laws.proofs.Quotes.{count_one, count_le, Single, mine_count, single_from, advance_from, enter_in, order_from, pull_spare, lapse_spare}

abbrev Fits : Desk → Type 0
Fits d = (length (trades_of d.journal) ≤ 256) × (length d.rows ≤ 256)

-- the rows after a call, and what it noted
abbrev left : Outcome → Desk
left o = record { rows = o.next.rows; journal = o.journal }

module _ (m : Making) (refs : ℕ → Reference) {st : State} {h : History} (ok : Kept m refs st h) where
  -- the maker's quote on that side is gone once it is withdrawn
  side_gone : (q : Quote) (f : Face) → In f (side_cleared st q).rows → (mine q.maker f.role && (eqb f.series q.series && same_side f.side q.side)) ≡ false
  side_gone q f i =
      pull_gone (on_side q.maker q.series q.side) (λ y. mine q.maker y.role && (eqb y.series q.series && same_side y.side q.side))
      (λ r. ap (λ (b : Bool). b && (eqb r.series q.series && same_side r.side q.side)) (mine_role q.maker r.standing))
      (desk st.rows) ok.settled.0.0.distinct f i (ok.settled.0.0.numbered f (pull_in (on_side q.maker q.series q.side) (desk st.rows) f i)).0

  -- ---- rows and trades

  module _ (few : length st.rows ≤ 256) where
    pulled_fits : (p : Row → Bool) → Fits (pull p (desk st.rows))
    pulled_fits p =
        let z : length (trades_of (pull p (desk st.rows)).journal) ≡ 0 = ap length (pull_same p (desk st.rows)) in
        (omega arith, omega (arith, pull_length p (desk st.rows)))

    order_fits : Lawful m.orders → (o : Order) → OrderPasses m st o → (is_day o.condition && leb 256 (length st.rows)) ≡ false → Fits (order_entered st o)
    unfolding enter_now
    order_fits law o pass full =
        let t = order_ticket st o in
        let due = second_after st.clock in
        order_enters m refs ok Fits o law pass
        (λ day sane.
        let a = enter_volume (desk st.rows) ok.settled.0 due t (day_pricing st o) st.next sane in
        let b = leb-false 256 (length st.rows) (subst (λ (c : Condition). (is_day c && leb 256 (length st.rows)) ≡ false) day full) in
        (omega arith, omega arith))
        (let f = take due (taker t t.limit) t.size st.rows [] in
        let z : length (trades_of (lapse st.next f.left (noting f.trades []))) ≡ length f.trades = ap length (lapse_trades st.next f.left (noting f.trades [])) ∙ noted_length f.trades [] ∙ omega arith in
        (omega (arith, take_trades due (taker t t.limit) st.rows t.size []), omega (arith, take_rows due (taker t t.limit) st.rows t.size [])))

    quote_fits : Lawful m.quotes → (q : Quote) → QuotePasses m st q → st.shut q.maker (class_of m q.series) ≡ false → leb 256 (count (λ r. not (on_side q.maker q.series q.side r)) st.rows) ≡ false → Fits (quote_entered st q)
    quote_fits law q pass free full =
        let old = on_side q.maker q.series q.side in
        let d = side_cleared st q in
        let a = enter_volume d (cleared_settled m refs ok old).0 (second_after st.clock) (quote_ticket st q) (AtLimit q.price) st.next (quote_rests m refs ok q law pass free) in
        let b = pull_count old (λ r. not (old r)) (desk st.rows) in
        let z : length (trades_of d.journal) ≡ 0 = ap length (pull_same old (desk st.rows)) in
        let c = leb-false 256 (count (λ r. not (old r)) st.rows) full in
        let g = count_all old d.rows (λ r i. ap (λ (y : Bool). y && (eqb r.series q.series && same_side r.side q.side)) (mine_role q.maker r.standing) ∙ side_gone q (face r) (has_in r d.rows i)) in
        (omega arith, omega arith)

    came_fits : Lawful m.orders → Lawful m.quotes → {room : Room} {c : Call} {o : Outcome} → Came m st room c o → Fits (left o)
    came_fits lo lq (order_taken o met pass) = order_fits lo o pass met.1.1.1.1.1.0
    came_fits lo lq (quote_taken q met pass) = quote_fits lq q pass met.1.1.1.1.1.1.0 met.1.1.1.1.1.0
    came_fits lo lq (side_pulled q why extent) = pulled_fits (on_side q.maker q.series q.side)
    came_fits lo lq (class_pulled q why extent) = pulled_fits (in_class m q.maker (class_of m q.series))
    came_fits lo lq (row_withdrawn n) = pulled_fits (numbered n)
    came_fits lo lq (clock_moved ms met) = let a = advance_volume (st.clock + ms) (desk st.rows) ok.settled.0 in (omega arith, omega arith)
    came_fits lo lq other = (omega arith, few)

    pub step_fits : Lawful m.orders → Lawful m.quotes → (room : Room) (c : Call) → Fits (left (step m st room c))
    step_fits lo lq room c = came_fits lo lq (came m st room c)

  -- ---- quotes and withdrawals

  module _ (single : Single (length m.series) st.rows) where
    abbrev made : ℕ
    made = length m.series

    pulled : (p : Row → Bool) → Single made (pull p (desk st.rows)).rows
    pulled p = single_from made _ _ (λ f k i e. pull_in p (desk st.rows) f i) single

    order_single : (o : Order) → Single made (order_entered st o).rows
    unfolding enter_now
    order_single o =
        let t = order_ticket st o in
        let due = second_after st.clock in
        either_entered (λ d. Single made d.rows) st o
        (single_from made _ _ (order_from due t (day_pricing st o) (desk st.rows) refl) single)
        (single_from made _ _ (λ f k i e. take_in due (taker t t.limit) st.rows t.size [] f i) single)

    quote_single : (q : Quote) → q.series < made → Single made (quote_entered st q).rows
    quote_single q named =
        let t = quote_ticket st q in
        let due = second_after st.clock in
        let d = side_cleared st q in
        let no : (f : Face) → In f d.rows → f.role ≡ quote q.maker → f.series ≡ q.series → f.side ≡ q.side → ⊥ = λ f i a b c.
        clash (mine q.maker f.role && (eqb f.series q.series && same_side f.side q.side))
        (and_from (mine q.maker f.role) (eqb f.series q.series && same_side f.side q.side) (subst (λ (y : Role). mine q.maker y ≡ true) (sym a) (eq-eqb q.maker q.maker refl)) (and_from (eqb f.series q.series) (same_side f.side q.side) (eq-eqb f.series q.series b) (subst (λ (y : Side). same_side y q.side ≡ true) (sym c) (same_self q.side))))
        (side_gone q f i) in
        let old = pulled (on_side q.maker q.series q.side) in
        let at : (f : Face) → In f (enter due t (AtLimit q.price) d).rows → (f ≡ face (row_for due t (AtLimit q.price) q.price 0)) ⊎ In f d.rows = λ f i. enter_in due t (AtLimit q.price) d f i in
        record {
          one = λ f g k i l a b x y. ⊎_elim
              (λ e. ⊎_elim
              (λ z. e ∙ sym z)
              (λ z. absurd (no g z (b ∙ sym a ∙ ap (λ (w : Face). w.role) e) (sym x ∙ ap (λ (w : Face). w.series) e) (sym y ∙ ap (λ (w : Face). w.side) e)))
              (at g l))
              (λ e. ⊎_elim
              (λ z. absurd (no f e (a ∙ sym b ∙ ap (λ (w : Face). w.role) z) (x ∙ ap (λ (w : Face). w.series) z) (y ∙ ap (λ (w : Face). w.side) z)))
              (λ z. old.one f g k e z a b x y)
              (at g l))
              (at f i);
          listed = λ f k i a. ⊎_elim (λ e. subst (λ (w : Face). w.series < made) (sym e) named) (λ z. old.listed f k z a) (at f i);
        }

    came_single : {room : Room} {c : Call} {o : Outcome} → Came m st room c o → Single made o.next.rows
    came_single (order_taken o met pass) = order_single o
    came_single (quote_taken q met pass) = quote_single q (leb-false made q.series (or_parts (unnamed m q.series) (unknown q.maker) met.1.0).0)
    came_single (side_pulled q why extent) = pulled (on_side q.maker q.series q.side)
    came_single (class_pulled q why extent) = pulled (in_class m q.maker (class_of m q.series))
    came_single (row_withdrawn n) = pulled (numbered n)
    came_single (clock_moved ms met) = single_from made _ _ (advance_from (st.clock + ms) (desk st.rows) ok.settled.0) single
    came_single other = single

    pub step_single : (room : Room) (c : Call) → Single made (step m st room c).next.rows
    step_single room c = came_single (came m st room c)

    -- and so withdrawals are few
    module _ (few : length m.series ≤ 64) where
      abbrev Spares : Desk → Type 0
      Spares d = length (withdrawals_of d.journal) ≤ 128

      mine_spare : (k : ℕ) (p : Row → Bool) → ((r : Row) → p r ≡ true → is_mine k r.standing ≡ true) → Spares (pull p (desk st.rows))
      mine_spare k p h = omega (arith, pull_spare p (desk st.rows), count_le p (λ r. is_mine k r.standing) st.rows (λ r i e. h r e), mine_count made k st.rows ok.settled.0.0.distinct single)

      side_spare : (q : Quote) → Spares (side_cleared st q)
      side_spare q = mine_spare q.maker (on_side q.maker q.series q.side) (λ r e. (and_parts (is_mine q.maker r.standing) (eqb r.series q.series && same_side r.side q.side) e).0)

      class_spare : (q : Quote) → Spares (class_cleared m st q)
      class_spare q = mine_spare q.maker (in_class m q.maker (class_of m q.series)) (λ r e. (and_parts (is_mine q.maker r.standing) (eqb (class_of m r.series) (class_of m q.series)) e).0)

      order_spare : (o : Order) → Spares (order_entered st o)
      unfolding enter_now
      order_spare o =
          let t = order_ticket st o in
          let due = second_after st.clock in
          either_entered Spares st o
          (let z : length (withdrawals_of (enter due t (day_pricing st o) (desk st.rows)).journal) ≡ 0 = ap length (enter_same due t (day_pricing st o) (desk st.rows)) in omega arith)
          (let f = take due (taker t t.limit) t.size st.rows [] in
          let z : length (withdrawals_of (noting f.trades [])) ≡ 0 = ap length (withdrawals_noted f.trades []) in
          omega (arith, lapse_spare st.next f.left (noting f.trades [])))

      quote_spare : (q : Quote) → Spares (quote_entered st q)
      quote_spare q =
          let d = side_cleared st q in
          let z : length (withdrawals_of (quote_entered st q).journal) ≡ length (withdrawals_of d.journal) = ap length (enter_same (second_after st.clock) (quote_ticket st q) (AtLimit q.price) d) in
          omega (arith, side_spare q)

      came_spare : {room : Room} {c : Call} {o : Outcome} → Came m st room c o → Spares (left o)
      came_spare (order_taken o met pass) = order_spare o
      came_spare (quote_taken q met pass) = quote_spare q
      came_spare (side_pulled q why extent) = side_spare q
      came_spare (class_pulled q why extent) = class_spare q
      came_spare (row_withdrawn n) = omega (arith, pull_spare (numbered n) (desk st.rows), count_one (numbered n) st.rows ok.settled.0.0.distinct (λ x y i l a b. eqb-true x.number n a ∙ sym (eqb-true y.number n b)))
      came_spare (clock_moved ms met) = let z : length (withdrawals_of (advance (st.clock + ms) (desk st.rows)).journal) ≡ 0 = ap length (advance_same (st.clock + ms) (desk st.rows)) in omega arith
      came_spare other = omega arith

      pub step_spare : (room : Room) (c : Call) → Spares (left (step m st room c))
      step_spare room c = came_spare (came m st room c)

module _ (m : Making) (refs : ℕ → Reference) (lo : Lawful m.orders) (lq : Lawful m.quotes) where
  few_rows : (asked : List Asked) → length (run m refs asked).state.rows ≤ 256
  unfolding run
  few_rows [] = omega arith
  few_rows (a ∷ older) = (step_fits m refs (run_kept m refs lo lq older) (few_rows older) lo lq a.0 a.1).1

  few_quotes : (asked : List Asked) → Single (length m.series) (run m refs asked).state.rows
  unfolding run
  few_quotes [] = record { one = λ f g k i l a b x y. absurd i; listed = λ f k i a. absurd i }
  few_quotes (a ∷ older) = step_single m refs (run_kept m refs lo lq older) (few_quotes older) a.0 a.1

pub every_run_roomy : EveryRunRoomy
every_run_roomy m refs lo lq asked =
    let ok = run_kept m refs lo lq asked in
    record {
      rows = few_rows m refs lo lq asked;
      trades = λ room c. (step_fits m refs ok (few_rows m refs lo lq asked) lo lq room c).0;
      withdrawals = λ few room c. step_spare m refs ok (few_quotes m refs lo lq asked) few room c;
    }
