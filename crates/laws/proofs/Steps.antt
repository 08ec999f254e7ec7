-- Every call keeps what the history says of a market.
use Rattle.std.proofs.Common.{◌≡◌, ℕ, suc, ◌+◌, ◌<◌, ◌≤◌, Bool, true, false, cond, ◌&&◌, eqb, List, [], ◌∷◌, ◌++◌, is_some, Some, None, Ok, Err, Option, sym, refl, ap, ◌∙◌, subst, arith}
use Rattle.std.proofs.lemmas.Bool.{eqb-true, eq-eqb, ne_eqb, and_right, cond_both, or_parts}
use Rattle.values.specs.declared.call.Call.{Call}
use Rattle.values.specs.declared.call.Call.TheVariants as call
use Rattle.values.specs.declared.call.Order.{Order}
use Rattle.values.specs.declared.call.Quote.{Quote}
use Rattle.values.specs.declared.call.Update.{Update}
use Rattle.values.specs.declared.nbbo.Nbbo.{Nbbo}
use Rattle.values.specs.declared.order.OrderPrice.{OrderPrice}
use Rattle.values.specs.declared.order.OrderPrice.TheVariants.{Market, Limit}
use Rattle.values.specs.declared.order.Condition.{Condition}
use Rattle.values.specs.declared.order.Condition.TheVariants.{Day, Immediate}
use Rattle.values.specs.declared.reference.Reference.{Reference}
use Rattle.values.specs.declared.reference.Event.{Event as Happening}
use Rattle.values.specs.declared.refusal.Cause.{Cause}
use Rattle.values.specs.declared.refusal.Refusal.{Refusal}
use Rattle.values.specs.declared.refusal.Refusal.TheVariants.{Screen}
use Rattle.values.specs.Orders.{limit_of}
use Rattle.values.specs.References.{after}
use Rattle.values.specs.Sides.{NoMoreAggressive}
use Rattle.screens.specs.declared.view.View.{View}
use Rattle.screens.specs.Views.{passes}
use Rattle.screens.specs.declared.view.Extent.{Extent}
use Rattle.screens.specs.declared.view.Extent.TheVariants.{OneSide, WholeClass}
use Rattle.screens.specs.Screens.{Lawful}
use Rattle.collars.specs.declared.pricing.Pricing.{Pricing}
use Rattle.collars.specs.declared.pricing.Pricing.TheVariants.{AtLimit}
use Rattle.book.specs.declared.row.Row.{Row}
use Rattle.book.specs.Rows.{numbered}
use Rattle.trading.specs.Journals.{Event}
use Rattle.trading.specs.Desks.{Desk, pull, second_after, advance, enter, enter_now}
use Rattle.trading.specs.Doing.{desk}
use Rattle.trading.proofs.Sides.{decide}
use Rattle.trading.proofs.Resting.{Sane}
use Rattle.trading.proofs.Faces.{Role, plain, held, quote, Face, In}
use Rattle.market.specs.States.{Making, State, Room, Answer, Outcome, class_of, view_by, view_in}
use Rattle.market.specs.Tests.{bad_side, on_side, in_class, tests_nbbo}
use Rattle.market.specs.Calls.{refuse, enter_by, taken_nbbo, taken_event, taken_enable, taken_withdraw, taken_clock, taken_width, screening, taken_order, refused_quote, taken_quote, step}
use Rattle.laws.specs.Histories.{Entry, History, journal_of}
use Rattle.laws.specs.Runs.{Asked, entry_of}
use Rattle.laws.specs.Admissions.{brought_by, admits, is_admission, admitted_in, Admission, admission, party_in}
use Rattle.laws.specs.Views.{nbbo_after, nbbo_of, width_after, width_of, reference_after, reference_of, view_of, clock_after, clock_of}
use Rattle.laws.specs.Collars.{collar_by, collar_for, collar_in}
use Rattle.laws.specs.Shutouts.{shut_after, shut_out}
use Rattle.laws.specs.Protection.{OrderPassesAt, PassesIn}
use Rattle.laws.proofs.Words.{or_else_true, or_else_false}
use Rattle.laws.proofs.Ledgers.{Ledger, Welcome, Settled, advance_settled, pull_settled}
use Rattle.laws.proofs.Enters.{balanced, PricedAs, Terms, rested_sane, enter_settled, enter_now_settled}
use Rattle.laws.proofs.Prices.{passes_less, Orderly, pricing_as}
use Rattle.laws.proofs.Outcomes.{NoneMet, order_ticket, day_pricing, order_entered, quote_ticket, side_cleared, class_cleared, quote_entered, OrderPasses, QuotePasses, Reaches, Mild, Came, refused, nbbo_set, event_told, maker_enabled, width_set, row_withdrawn, clock_moved, order_taken, quote_taken, side_pulled, class_pulled, came}
use Rattle.trading.proofs.Gone.{pull_gone}
use Rattle.laws.proofs.Pulls.{mine, mine_role}
use Rattle.laws.proofs.Remaps.{ledger_of, remap, rebase_of}

-- ---- a refused call changes none of the words

refused_nbbo : (s : ℕ) (c : Call) (x : Nbbo) → nbbo_after s c false x ≡ x
refused_nbbo s (call.Nbbo i b) x = refl
refused_nbbo s other x = refl

refused_width : (s : ℕ) (c : Call) (x : Option ℕ) → width_after s c false x ≡ x
refused_width s (call.Width u) x = refl
refused_width s other x = refl

refused_reference : (s : ℕ) (c : Call) (x : Reference) → reference_after s c false x ≡ x
refused_reference s (call.Event c e) x = refl
refused_reference s other x = refl

pub refused_clock : (c : Call) (x : ℕ) → clock_after c false x ≡ x
refused_clock (call.Clock ms) x = refl
refused_clock other x = refl

module _ (m : Making) (refs : ℕ → Reference) where
  -- what the history says of a market between two calls
  pub record Kept (st : State) (h : History) : Type 0 where
    pub nbbo : (s : ℕ) → st.nbbo s ≡ nbbo_of s h
    pub reference : (c : ℕ) → st.reference c ≡ reference_of refs c h
    pub width : (s : ℕ) → st.width s ≡ width_of s h
    pub shut : (k c : ℕ) → st.shut k c ≡ shut_out m refs k c h
    pub clock : st.clock ≡ clock_of h
    pub next : st.next ≡ suc (admitted_in h)
    pub orderly : (s : ℕ) → Orderly (st.nbbo s)
    pub none : (n : ℕ) → admitted_in h < n → admission n h ≡ None
    pub settled : Settled (ledger_of m refs (journal_of h) h) (admitted_in h) (desk st.rows)

  abbrev pub Next : History → Asked → Outcome → Type 0
  Next h a o = Kept o.next (entry_of a o ∷ h)

  pub admission_old : (n : ℕ) (e : Entry) (h : History) → admits n e ≡ false → admission n (e ∷ h) ≡ admission n h
  unfolding admission
  admission_old n e h a = or_else_false (admits n e) _ (admission n h) a

  pub admission_new : (n : ℕ) (e : Entry) (h : History) → admits n e ≡ true → admission n (e ∷ h) ≡ Some (record { call = e.call; before = h })
  unfolding admission
  admission_new n e h a = or_else_true (admits n e) _ (admission n h) a

  module _ {st : State} {h : History} (ok : Kept st h) where
    abbrev top : ℕ
    top = admitted_in h

    -- the call shuts out no maker of a quote that rests
    abbrev pub Welcoming : Entry → Desk → Type 0
    Welcoming e d = (f : Face) (k : ℕ) → In f d.rows → f.role ≡ quote k → shut_out m refs k (class_of m f.series) h ≡ false → shut_out m refs k (class_of m f.series) (e ∷ h) ≡ false

    -- a desk that is settled by the history before the call is so by the call too, where the call admits none of the numbers so far
    pub carry : (e : Entry) → ((n : ℕ) → n ≤ top → admits n e ≡ false) → (d : Desk) → Settled (ledger_of m refs (journal_of h) h) top d → Welcoming e d → Settled (ledger_of m refs (journal_of h) (e ∷ h)) top d
    carry e old d rest shut =
        remap m refs (journal_of h) (λ n. admission n h) (λ n. admission n (e ∷ h)) (λ k s. shut_out m refs k (class_of m s) h ≡ false) (λ k s. shut_out m refs k (class_of m s) (e ∷ h) ≡ false) top
        (λ n b. admission_old n e h (old n b))
        (λ n b. ok.none n b)
        d rest (λ f i w. welcome f.role f i refl w)
      where
        welcome : (x : Role) (f : Face) → In f d.rows → f.role ≡ x → Welcome (ledger_of m refs (journal_of h) h) x f → Welcome (ledger_of m refs (journal_of h) (e ∷ h)) x f
        welcome plain f i z w = tt
        welcome (held c) f i z w = tt
        welcome (quote k) f i z w = shut f k i z w

    -- and so is what the call made of it, where the call admits nobody
    settled_on : (e : Entry) → ((n : ℕ) → admits n e ≡ false) → (d : Desk) → Settled (ledger_of m refs (journal_of h) h) top d → Welcoming e d → Settled (ledger_of m refs (d.journal ++ journal_of h) (e ∷ h)) top (desk d.rows)
    settled_on e quiet d rest shut = rebase_of m refs (journal_of h) (e ∷ h) top d (carry e (λ n b. quiet n) d rest shut)

    -- and so is the desk that the call found, once some rows are withdrawn
    pub cleared_settled : (p : Row → Bool) → Settled (ledger_of m refs (journal_of h) h) top (pull p (desk st.rows))
    cleared_settled p = pull_settled (ledger_of m refs (journal_of h) h) p (desk st.rows) ok.settled

    -- a call that admits nobody leaves the numbers as they were
    none_same : (e : Entry) → ((n : ℕ) → admits n e ≡ false) → (n : ℕ) → admitted_in h < n → admission n (e ∷ h) ≡ None
    none_same e quiet n b = admission_old n e h (quiet n) ∙ ok.none n b

    -- ---- a call that is refused and leaves all as it was

    refused_shut : (k d : ℕ) (c : Call) (r : Refusal) (x : Bool) → Mild c r → shut_after m refs k d c (Err r) h x ≡ x
    refused_shut k d (call.Quote q) r x w = rw w
    refused_shut k d (call.Enable i c) r x w = refl
    refused_shut k d other r x w = refl

    refuse_kept : (a : Asked) (r : Refusal) → Mild a.1 r → Next h a (refuse st r)
    unfolding nbbo_of width_of reference_of shut_out clock_of journal_of admitted_in
    refuse_kept a r w =
        let c = a.1 in
        let e : Entry = record { call = c; room = a.0; answer = Err r; journal = [] } in
        let quiet : (n : ℕ) → admits n e ≡ false = λ n. and_right (is_some (brought_by c)) false refl in
        let same : is_admission e ≡ false = and_right (is_some (brought_by c)) false refl in
        record {
          nbbo = λ s. ok.nbbo s ∙ sym (refused_nbbo s c (nbbo_of s h));
          reference = λ s. ok.reference s ∙ sym (refused_reference s c (reference_of refs s h));
          width = λ s. ok.width s ∙ sym (refused_width s c (width_of s h));
          shut = λ k d. ok.shut k d ∙ sym (refused_shut k d c r (shut_out m refs k d h) w);
          clock = ok.clock ∙ sym (refused_clock c (clock_of h));
          next = rw same ok.next;
          orderly = ok.orderly;
          none = rw same (none_same e quiet);
          settled = rw same (settled_on e quiet (desk st.rows) ok.settled (λ f k i z x. refused_shut k (class_of m f.series) c r (shut_out m refs k (class_of m f.series) h) w ∙ x));
        }

    -- ---- calls that are taken and bring no order or quote

    kept_nbbo : (room : Room) (s : ℕ) (b : Nbbo) → NoneMet (tests_nbbo m st s b) → Next h (room, call.Nbbo s b) (taken_nbbo m st s b)
    unfolding nbbo_of width_of reference_of shut_out clock_of journal_of admitted_in
    kept_nbbo room s b met =
        let sides = or_parts (bad_side b.bid) (bad_side b.offer) met.1.0 in
        let e : Entry = record { call = call.Nbbo s b; room = room; answer = Ok None; journal = [] } in
        record {
          nbbo = λ k. ap (λ (x : Nbbo). cond (eqb k s) b x) (ok.nbbo k);
          reference = ok.reference;
          width = ok.width;
          shut = ok.shut;
          clock = ok.clock;
          next = ok.next;
          orderly = λ k. cond_both (eqb k s) b (st.nbbo k) Orderly (λ z. record { bid = sides.0; offer = sides.1; order = met.1.1.0 }) (λ z. ok.orderly k);
          none = none_same e (λ n. refl);
          settled = settled_on e (λ n. refl) (desk st.rows) ok.settled (λ f k i z x. x);
        }

    kept_event : (room : Room) (c : ℕ) (x : Happening) → Next h (room, call.Event c x) (taken_event m st c x)
    unfolding nbbo_of width_of reference_of shut_out clock_of journal_of admitted_in
    kept_event room c x =
        let e : Entry = record { call = call.Event c x; room = room; answer = Ok None; journal = [] } in
        record {
          nbbo = ok.nbbo;
          reference = λ k. decide (eqb k c)
              (λ t. rw t (ap (after x) (ok.reference c ∙ ap (λ (y : ℕ). reference_of refs y h) (sym (eqb-true k c t)))))
              (λ t. rw t (ok.reference k));
          width = ok.width;
          shut = ok.shut;
          clock = ok.clock;
          next = ok.next;
          orderly = ok.orderly;
          none = none_same e (λ n. refl);
          settled = settled_on e (λ n. refl) (desk st.rows) ok.settled (λ f k i z x. x);
        }

    kept_width : (room : Room) (u : Update) → Next h (room, call.Width u) (taken_width m st u.series u.width)
    unfolding nbbo_of width_of reference_of shut_out clock_of journal_of admitted_in
    kept_width room u =
        let e : Entry = record { call = call.Width u; room = room; answer = Ok None; journal = [] } in
        record {
          nbbo = ok.nbbo;
          reference = ok.reference;
          width = λ k. ap (λ (x : Option ℕ). cond (eqb k u.series) u.width x) (ok.width k);
          shut = ok.shut;
          clock = ok.clock;
          next = ok.next;
          orderly = ok.orderly;
          none = none_same e (λ n. refl);
          settled = settled_on e (λ n. refl) (desk st.rows) ok.settled (λ f k i z x. x);
        }

    kept_enable : (room : Room) (k c : ℕ) → Next h (room, call.Enable k c) (taken_enable m st k c)
    unfolding nbbo_of width_of reference_of shut_out clock_of journal_of admitted_in
    kept_enable room k c =
        let e : Entry = record { call = call.Enable k c; room = room; answer = Ok None; journal = [] } in
        record {
          nbbo = ok.nbbo;
          reference = ok.reference;
          width = ok.width;
          shut = λ i d. ap (λ (x : Bool). cond (eqb i k && eqb d c) false x) (ok.shut i d);
          clock = ok.clock;
          next = ok.next;
          orderly = ok.orderly;
          none = none_same e (λ n. refl);
          settled = settled_on e (λ n. refl) (desk st.rows) ok.settled (λ f i at z x. cond_both (eqb i k && eqb (class_of m f.series) c) false (shut_out m refs i (class_of m f.series) h) (λ y. y ≡ false) (λ y. refl) (λ y. x));
        }

    kept_withdraw : (room : Room) (n : ℕ) → Next h (room, call.Withdraw n) (taken_withdraw m st n)
    unfolding nbbo_of width_of reference_of shut_out clock_of journal_of admitted_in
    kept_withdraw room n =
        let d = pull (numbered n) (desk st.rows) in
        let e : Entry = record { call = call.Withdraw n; room = room; answer = Ok None; journal = d.journal } in
        record {
          nbbo = ok.nbbo;
          reference = ok.reference;
          width = ok.width;
          shut = ok.shut;
          clock = ok.clock;
          next = ok.next;
          orderly = ok.orderly;
          none = none_same e (λ i. refl);
          settled = settled_on e (λ i. refl) d (cleared_settled (numbered n)) (λ f k i z x. x);
        }

    kept_clock : (room : Room) (ms : ℕ) → Next h (room, call.Clock ms) (taken_clock m st ms)
    unfolding nbbo_of width_of reference_of shut_out clock_of journal_of admitted_in
    kept_clock room ms =
        let d = advance (st.clock + ms) (desk st.rows) in
        let e : Entry = record { call = call.Clock ms; room = room; answer = Ok None; journal = d.journal } in
        record {
          nbbo = ok.nbbo;
          reference = ok.reference;
          width = ok.width;
          shut = ok.shut;
          clock = ap (λ (y : ℕ). y + ms) ok.clock;
          next = ok.next;
          orderly = ok.orderly;
          none = none_same e (λ i. refl);
          settled = settled_on e (λ i. refl) d (advance_settled (ledger_of m refs (journal_of h) h) (st.clock + ms) (desk st.rows) ok.settled) (λ f k i z x. x);
        }

    -- ---- what the screens are shown is what the history shows

    pub view_same : (s : ℕ) → view_in m st s ≡ view_of m refs s h
    view_same s = λ i. view_by m s (ok.nbbo s i) (ok.reference (class_of m s) i)

    -- ---- an entry that admits the next number

    module _ (e : Entry) (gives : e.answer ≡ Ok (Some st.next)) (brings : is_some (brought_by e.call) ≡ true) where
      admits_next : admits st.next e ≡ true
      admits_next = rw (gives, brings) (eq-eqb st.next st.next refl)

      admits_other : (n : ℕ) → (n ≡ st.next → ⊥) → admits n e ≡ false
      admits_other n h = rw (gives, brings) (ne_eqb st.next n (λ z. h (sym z)))

      pub admits_old : (n : ℕ) → n ≤ admitted_in h → admits n e ≡ false
      admits_old n b = admits_other n (λ z. let x = ok.next in omega arith)

      pub admitted_next : admission st.next (e ∷ h) ≡ Some (record { call = e.call; before = h })
      admitted_next = admission_new st.next e h admits_next

      pub count_next : admitted_in (e ∷ h) ≡ suc (admitted_in h)
      unfolding admitted_in
      count_next = rw (gives, brings)

      pub none_next : (n : ℕ) → admitted_in (e ∷ h) < n → admission n (e ∷ h) ≡ None
      none_next n b = let c = count_next in admission_old n e h (admits_other n (λ z. let x = ok.next in omega arith)) ∙ ok.none n (omega arith)

      pub settled_next : (d : Desk) → Settled (ledger_of m refs (journal_of h) (e ∷ h)) st.next d → Settled (ledger_of m refs (d.journal ++ journal_of h) (e ∷ h)) (admitted_in (e ∷ h)) (desk d.rows)
      settled_next d rest = subst (λ (y : ℕ). Settled (ledger_of m refs (d.journal ++ journal_of h) (e ∷ h)) y (desk d.rows)) (ok.next ∙ sym count_next) (rebase_of m refs (journal_of h) (e ∷ h) st.next d rest)

    -- ---- an order

    module _ (room : Room) (o : Order) (j : List Event) where
      abbrev order_entry : Entry
      order_entry = record { call = call.Order o; room = room; answer = Ok (Some st.next); journal = j }

      abbrev order_ledger : Ledger
      order_ledger = ledger_of m refs (journal_of h) (order_entry ∷ h)

      order_start : Settled order_ledger top (desk st.rows)
      unfolding shut_out
      order_start = carry order_entry (admits_old order_entry refl refl) (desk st.rows) ok.settled (λ f k i z x. x)

      -- by its condition
      abbrev order_pricing : Condition → Pricing
      order_pricing Day = day_pricing st o
      order_pricing Immediate = AtLimit (limit_of o.side o.price)

      order_priced : (c : Condition) → PricedAs (order_pricing c) o.side (limit_of o.side o.price) (collar_for c o.side o.price (width_of o.series h) (nbbo_of o.series h))
      order_priced Immediate = (refl, refl)
      order_priced Day =
          subst (PricedAs (day_pricing st o) o.side (limit_of o.side o.price))
          (λ i. collar_by o.side o.price (ok.width o.series i) (ok.nbbo o.series i).bid (ok.nbbo o.series i).offer)
          (pricing_as (st.width o.series) o.side o.price (st.nbbo o.series) (ok.orderly o.series))

      module _ (law : Lawful m.orders) (pass : OrderPasses m st o) where
        clears_order : (price : OrderPrice) → screening m st o.series o.side price ≡ passes → (q : ℕ) → NoMoreAggressive o.side q (limit_of o.side price) → OrderPassesAt m refs q o price h
        clears_order Market e q n = tt
        clears_order (Limit p) e q n = passes_less m.orders law (view_of m refs o.series h) o.side q p n (subst (λ (v : View). m.orders v o.side p ≡ passes) (view_same o.series) e)

        order_terms : (c : Condition) → o.condition ≡ c → Terms order_ledger (order_ticket st o) (order_pricing c)
        order_terms c is =
            let new = admitted_next order_entry refl refl in
            record {
              numbered = let x = ok.next in omega arith;
              priced = subst (λ (y : Option Admission). PricedAs (order_pricing c) o.side (limit_of o.side o.price) (collar_in y)) (sym new)
                  (subst (λ (y : Condition). PricedAs (order_pricing c) o.side (limit_of o.side o.price) (collar_for y o.side o.price (width_of o.series h) (nbbo_of o.series h))) (sym is) (order_priced c));
              clears = λ q n. subst (PassesIn m refs q) (sym new) (clears_order o.price pass q n);
              brought = ap party_in new;
              welcomes = λ k e. absurd (let z : ◌≡◌ {A = ℕ} 0 1 = cc in omega arith);
            }

        order_settled : Settled order_ledger st.next (order_entered st o)
        order_settled = by o.condition refl
          where
            by : (c : Condition) → o.condition ≡ c → Settled order_ledger st.next (enter_by c (second_after st.clock) (order_ticket st o) (day_pricing st o) (desk st.rows))
            by Day is = enter_settled order_ledger (desk st.rows) order_start (second_after st.clock) (order_ticket st o) _ (order_terms Day is) ok.next
            by Immediate is = enter_now_settled order_ledger (desk st.rows) order_start (second_after st.clock) (order_ticket st o) (order_terms Immediate is) ok.next

    -- what is so of a day order as it enters, and of an immediate one
    pub order_enters : (P : Desk → Type 0) (o : Order) → Lawful m.orders → OrderPasses m st o → (o.condition ≡ Day → Sane st.next (balanced (second_after st.clock) (order_ticket st o) (day_pricing st o) (desk st.rows)).rows → P (enter (second_after st.clock) (order_ticket st o) (day_pricing st o) (desk st.rows))) → P (enter_now (second_after st.clock) (order_ticket st o) (desk st.rows)) → P (order_entered st o)
    order_enters P o law pass day now = by o.condition refl
      where
        room : Room
        room = record { trades = 0; withdrawals = 0 }

        by : (c : Condition) → o.condition ≡ c → P (enter_by c (second_after st.clock) (order_ticket st o) (day_pricing st o) (desk st.rows))
        by Day is = day is (rested_sane (order_ledger room o []) (desk st.rows) (order_start room o []) (second_after st.clock) (order_ticket st o) (day_pricing st o) (order_terms room o [] law pass Day is) ok.next)
        by Immediate is = now

    kept_order : Lawful m.orders → (room : Room) (o : Order) → OrderPasses m st o → Next h (room, call.Order o) (taken_order m st o)
    unfolding nbbo_of width_of reference_of shut_out clock_of journal_of
    kept_order law room o pass =
        let d = order_entered st o in
        let e = order_entry room o d.journal in
        record {
          nbbo = ok.nbbo;
          reference = ok.reference;
          width = ok.width;
          shut = ok.shut;
          clock = ok.clock;
          next = ap suc ok.next ∙ ap suc (sym (count_next e refl refl));
          orderly = ok.orderly;
          none = none_next e refl refl;
          settled = settled_next e refl refl d (order_settled room o d.journal law pass);
        }

    -- ---- a quote

    module _ (room : Room) (q : Quote) where
      abbrev quote_entry : Answer → List Event → Entry
      quote_entry a j = record { call = call.Quote q; room = room; answer = a; journal = j }

      extent_same : (x : Extent) → Reaches m st q x → m.extent (view_of m refs q.series h) q.side q.price ≡ x
      extent_same x e = ap (λ (v : View). m.extent v q.side q.price) (sym (view_same q.series)) ∙ e

      kept_side_pulled : (why : Cause) → Reaches m st q OneSide → Next h (room, call.Quote q) (refused_quote m st OneSide why q)
      unfolding nbbo_of width_of reference_of shut_out clock_of journal_of admitted_in
      kept_side_pulled why extent =
          let far = extent_same OneSide extent in
          let d = side_cleared st q in
          let e = quote_entry (Err (Screen why)) d.journal in
          record {
            nbbo = ok.nbbo;
            reference = ok.reference;
            width = ok.width;
            shut = λ i c. rw far (ok.shut i c);
            clock = ok.clock;
            next = ok.next;
            orderly = ok.orderly;
            none = none_same e (λ n. refl);
            settled = settled_on e (λ n. refl) d (cleared_settled (on_side q.maker q.series q.side)) (λ f i at z x. rw far x);
          }

      kept_class_pulled : (why : Cause) → Reaches m st q WholeClass → Next h (room, call.Quote q) (refused_quote m st WholeClass why q)
      unfolding nbbo_of width_of reference_of shut_out clock_of journal_of admitted_in
      kept_class_pulled why extent =
          let far = extent_same WholeClass extent in
          let c = class_of m q.series in
          let d = class_cleared m st q in
          let e = quote_entry (Err (Screen why)) d.journal in
          let rest = cleared_settled (in_class m q.maker c) in
          record {
            nbbo = ok.nbbo;
            reference = ok.reference;
            width = ok.width;
            shut = λ i d. rw far (ap (λ (x : Bool). cond (eqb i q.maker && eqb d c) true x) (ok.shut i d));
            clock = ok.clock;
            next = ok.next;
            orderly = ok.orderly;
            none = none_same e (λ n. refl);
            settled = settled_on e (λ n. refl) d rest (λ f i at z x.
                let gone : (mine q.maker f.role && eqb (class_of m f.series) c) ≡ false =
                pull_gone (in_class m q.maker c) (λ y. mine q.maker y.role && eqb (class_of m y.series) c) (λ r. ap (λ (b : Bool). b && eqb (class_of m r.series) c) (mine_role q.maker r.standing)) (desk st.rows) ok.settled.0.0.distinct f at (rest.0.0.numbered f at).0 in
                let own : (eqb i q.maker && eqb (class_of m f.series) c) ≡ false = subst (λ (y : Role). (mine q.maker y && eqb (class_of m f.series) c) ≡ false) z gone in
                rw (far, own) x);
          }

      module _ (j : List Event) where
        abbrev quote_ledger : Ledger
        quote_ledger = ledger_of m refs (journal_of h) (quote_entry (Ok (Some st.next)) j ∷ h)

        quote_start : Settled quote_ledger top (side_cleared st q)
        unfolding shut_out
        quote_start = carry (quote_entry (Ok (Some st.next)) j) (admits_old (quote_entry (Ok (Some st.next)) j) refl refl) (side_cleared st q) (cleared_settled (on_side q.maker q.series q.side)) (λ f i at z x. x)

        module _ (law : Lawful m.quotes) (pass : QuotePasses m st q) (free : st.shut q.maker (class_of m q.series) ≡ false) where
          quote_free : shut_out m refs q.maker (class_of m q.series) (quote_entry (Ok (Some st.next)) j ∷ h) ≡ false
          unfolding shut_out
          quote_free = sym (ok.shut q.maker (class_of m q.series)) ∙ free

          quote_terms : Terms quote_ledger (quote_ticket st q) (AtLimit q.price)
          quote_terms =
              let new = admitted_next (quote_entry (Ok (Some st.next)) j) refl refl in
              record {
                numbered = let x = ok.next in omega arith;
                priced = (ap collar_in new, refl);
                clears = λ p n. subst (PassesIn m refs p) (sym new) (passes_less m.quotes law (view_of m refs q.series h) q.side p q.price n (subst (λ (v : View). m.quotes v q.side q.price ≡ passes) (view_same q.series) pass));
                brought = ap party_in new;
                welcomes = λ i e. let z : q.maker ≡ i = cc in subst (λ (y : ℕ). shut_out m refs y (class_of m q.series) (quote_entry (Ok (Some st.next)) j ∷ h) ≡ false) z quote_free;
              }

          quote_settled : Settled quote_ledger st.next (quote_entered st q)
          quote_settled = enter_settled quote_ledger (side_cleared st q) quote_start (second_after st.clock) (quote_ticket st q) (AtLimit q.price) quote_terms ok.next

    -- its balance stands well in the book
    pub quote_rests : (q : Quote) → Lawful m.quotes → QuotePasses m st q → st.shut q.maker (class_of m q.series) ≡ false → Sane st.next (balanced (second_after st.clock) (quote_ticket st q) (AtLimit q.price) (side_cleared st q)).rows
    quote_rests q law pass free = let room : Room = record { trades = 0; withdrawals = 0 } in rested_sane (quote_ledger room q []) (side_cleared st q) (quote_start room q []) (second_after st.clock) (quote_ticket st q) (AtLimit q.price) (quote_terms room q [] law pass free) ok.next

    kept_quote : Lawful m.quotes → (room : Room) (q : Quote) → QuotePasses m st q → st.shut q.maker (class_of m q.series) ≡ false → Next h (room, call.Quote q) (taken_quote m st q)
    unfolding nbbo_of width_of reference_of shut_out clock_of journal_of
    kept_quote law room q pass free =
        let d = quote_entered st q in
        let e = quote_entry room q (Ok (Some st.next)) d.journal in
        record {
          nbbo = ok.nbbo;
          reference = ok.reference;
          width = ok.width;
          shut = ok.shut;
          clock = ok.clock;
          next = ap suc ok.next ∙ ap suc (sym (count_next e refl refl));
          orderly = ok.orderly;
          none = none_next e refl refl;
          settled = settled_next e refl refl d (quote_settled room q d.journal law pass free);
        }

    -- ---- every call

    kept : Lawful m.orders → Lawful m.quotes → {room : Room} {c : Call} {o : Outcome} → Came m st room c o → Next h (room, c) o
    kept lo lq {room} (refused {c} r mild) = refuse_kept (room, c) r mild
    kept lo lq {room} (nbbo_set s b met) = kept_nbbo room s b met
    kept lo lq {room} (event_told c e) = kept_event room c e
    kept lo lq {room} (maker_enabled k c) = kept_enable room k c
    kept lo lq {room} (width_set u) = kept_width room u
    kept lo lq {room} (row_withdrawn n) = kept_withdraw room n
    kept lo lq {room} (clock_moved ms met) = kept_clock room ms
    kept lo lq {room} (order_taken o met pass) = kept_order lo room o pass
    kept lo lq {room} (quote_taken q met pass) = kept_quote lq room q pass met.1.1.1.1.1.1.0
    kept lo lq {room} (side_pulled q why extent) = kept_side_pulled room q why extent
    kept lo lq {room} (class_pulled q why extent) = kept_class_pulled room q why extent

    pub step_kept : Lawful m.orders → Lawful m.quotes → (room : Room) (c : Call) → Next h (room, c) (step m st room c)
    step_kept lo lq room c = kept lo lq (came m st room c)
