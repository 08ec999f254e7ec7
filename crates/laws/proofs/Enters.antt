-- An order or quote enters: it trades, its balance rests, and its series is served.
use Rattle.std.proofs.Common.{◌≡◌, ℕ, zero, suc, ◌+◌, ◌-◌, ◌<◌, ◌≤◌, true, false, cond, eqb, ltb, List, [], ◌∷◌, ◌++◌, Some, None, Option, unwrap_or, sym, refl, ap, ◌∙◌, subst, inl, inr, ⊎_elim, arith}
use Rattle.std.proofs.lemmas.Bool.{eqb-true, eq-eqb, ne_eqb, cond_both, or_left, or_from, cases_eq}
use Rattle.values.specs.declared.side.Side.{Side}
use Rattle.values.specs.Sides.{opposite, NoMoreAggressive, ahead, onward}
use Rattle.collars.specs.declared.pricing.Pricing.{Pricing}
use Rattle.collars.specs.declared.pricing.Pricing.TheVariants.{AtLimit, Wide, Narrow}
use Rattle.collars.specs.Pricings.{reach_of, display_of as restsAt, collar_of}
use Rattle.book.specs.declared.row.Row.{Row}
use Rattle.book.specs.declared.row.Standing.{Standing}
use Rattle.book.specs.declared.row.Standing.TheVariants.{Plain, Held}
use Rattle.book.specs.declared.row.Taker.{Taker}
use Rattle.book.specs.declared.row.Trade.{Trade}
use Rattle.book.specs.Taking.{amount, note, Fill, take}
use Rattle.book.specs.Trades.{trade_with}
use Rattle.trading.specs.declared.ticket.Ticket.{Ticket}
use Rattle.trading.specs.Journals.{Event, Shown, Moved, Traded, Withdrawn, noting}
use Rattle.trading.specs.Desks.{Desk, taker, last_price, standing_by, row_for, show_first, show_last, rest, enter, lapse, enter_now}
use Rattle.trading.proofs.Sides.{Beyond, decide, no_more_refl, no_more_trans, beyond_from, onward_limit}
use Rattle.trading.proofs.Faces.{role_of, Face, face, In, take_in, take_clear, reach_true, amount_reach}
use Rattle.trading.proofs.Resting.{Sane, Others, insert_others, weaken, take_sane, insert_sane, serve_rested}
use Rattle.laws.specs.Admissions.{Party}
use Rattle.laws.specs.Displays.{display_of, is_party, traded_of, last_trade_of, withdrawn_of, is_named}
use Rattle.laws.specs.Collars.{Collar}
use Rattle.laws.specs.Protection.{WithinCollar}
use Rattle.laws.specs.Moves.{gap, given_by}
use Rattle.laws.proofs.Words.{or_else_true, or_else_false, shown_self, shown_other, noted_shown, noted_named, noted_withdrawn, unnamed_withdrawn, Unheard}
use Rattle.laws.proofs.Sizes.{size_in, size_lacks, cond_zero, insert_size, take_sizes}
use Rattle.laws.proofs.Ledgers.{onward_near, size_of, Ledger, AllFair, Facts, known, whole, Told, Sound, Settled, take_fair, serve_sound, placed_told}

-- an order or quote has traded and its balance rests, before its series is served
abbrev pub balanced : ℕ → Ticket → Pricing → Desk → Desk
balanced due t p d = let f = take due (taker t (reach_of p)) t.size d.rows [] in rest due t p f f.left (noting f.trades (show_first t p d.journal))

-- the pricing and the collar of an order agree: its reach is a collar onward, and its display price stands within its reach
abbrev pub PricedAs : Pricing → Side → ℕ → Option Collar → Type 0
PricedAs (AtLimit l) s limit o = (o ≡ None) × (l ≡ limit)
PricedAs (Wide x reach c) s limit o =
    (y : ℕ × ℕ) × (o ≡ Some (record { side = s; limit = limit; width = c; own = y.0; contra = y.1 }))
    × (reach ≡ onward s x c limit) × NoMoreAggressive s x reach × (x ≡ ahead s y.0 c) × (ltb c (gap y.0 y.1) ≡ true)
PricedAs (Narrow x reach c) s limit o =
    (y : ℕ × ℕ) × (o ≡ Some (record { side = s; limit = limit; width = c; own = y.0; contra = y.1 }))
    × (reach ≡ onward s y.1 c limit) × NoMoreAggressive s x reach × (x ≡ y.0) × (ltb c (gap y.0 y.1) ≡ false)

pub reach_within : (p : Pricing) (s : Side) (limit : ℕ) (o : Option Collar) → PricedAs p s limit o → NoMoreAggressive s (reach_of p) limit
reach_within (AtLimit l) s limit o h = rw h.1 (no_more_refl s limit)
reach_within (Wide x reach c) s limit o h = rw h.2 (onward_limit s x c limit)
reach_within (Narrow x reach c) s limit o h = rw h.2 (onward_limit s h.0.1 c limit)

-- ---- the last price that a taker traded at is in its reach

abbrev LastIn : Taker → Option ℕ → Type 0
LastIn t None = Unit {0}
LastIn t (Some p) = NoMoreAggressive t.side p t.reach

note_last : (t : Taker) (q : ℕ) (r : Row) (j : List Trade) → (0 < q → NoMoreAggressive t.side r.display t.reach) → LastIn t (last_price j) → LastIn t (last_price (note q (trade_with t q r) j))
note_last t zero r j h l = l
note_last t (suc q) r j h l = h (omega arith)

take_last : (due : ℕ) (t : Taker) (rs : List Row) (n : ℕ) (j : List Trade) → LastIn t (last_price j) → LastIn t (last_price (take due t n rs j).trades)
unfolding take
take_last due t [] n j l = l
take_last due t (r ∷ rs) n j l = let q = amount t n r in take_last due t rs (n - q) _ (note_last t q r j (λ h. (reach_true t r (amount_reach t n r h)).2) l)

or_in : (t : Taker) (o : Option ℕ) (x : ℕ) → NoMoreAggressive t.side x t.reach → LastIn t o → NoMoreAggressive t.side (unwrap_or o x) t.reach
or_in t None x h l = h
or_in t (Some p) x h l = l

-- the display price of the balance is in the taker's reach
rest_in : (t : Ticket) (p : Pricing) (c : Option Collar) (o : Option ℕ) → PricedAs p t.side t.limit c → LastIn (taker t (reach_of p)) o → NoMoreAggressive t.side (restsAt p o) (reach_of p)
rest_in t (AtLimit l) c o h k = no_more_refl t.side l
rest_in t (Wide x reach w) c o h k = h.3
rest_in t (Narrow x reach w) c o h k = or_in (taker t reach) o x h.3 k

-- ---- showing a display price trades and withdraws nothing

module _ (older : List Event) (t : Ticket) where
  first_other : (p : Pricing) (j : List Event) (n : ℕ) → (n ≡ t.number → ⊥) → display_of n (show_first t p j ++ older) ≡ display_of n (j ++ older)
  first_other (AtLimit l) j n h = refl
  first_other (Wide x reach c) j n h = shown_other n t.number x (j ++ older) h
  first_other (Narrow x reach c) j n h = refl

  pub first_named : (p : Pricing) (j : List Event) (n : ℕ) → is_named n (show_first t p j ++ older) ≡ is_named n (j ++ older)
  unfolding is_named
  first_named (AtLimit l) j n = refl
  first_named (Wide x reach c) j n = refl
  first_named (Narrow x reach c) j n = refl

  first_traded : (p : Pricing) (j : List Event) (n : ℕ) → traded_of n (show_first t p j ++ older) ≡ traded_of n (j ++ older)
  unfolding traded_of
  first_traded (AtLimit l) j n = refl
  first_traded (Wide x reach c) j n = refl
  first_traded (Narrow x reach c) j n = refl

  first_withdrawn : (p : Pricing) (j : List Event) (n : ℕ) → withdrawn_of n (show_first t p j ++ older) ≡ withdrawn_of n (j ++ older)
  unfolding withdrawn_of
  first_withdrawn (AtLimit l) j n = refl
  first_withdrawn (Wide x reach c) j n = refl
  first_withdrawn (Narrow x reach c) j n = refl

  last_other : (p : Pricing) (s : ℕ) (j : List Event) (n : ℕ) → (n ≡ t.number → ⊥) → display_of n (show_last t p s j ++ older) ≡ display_of n (j ++ older)
  last_other (AtLimit l) s j n h = shown_other n t.number s (j ++ older) h
  last_other (Wide x reach c) s j n h = refl
  last_other (Narrow x reach c) s j n h = shown_other n t.number s (j ++ older) h

  last_named : (p : Pricing) (s : ℕ) (j : List Event) (n : ℕ) → is_named n (show_last t p s j ++ older) ≡ is_named n (j ++ older)
  unfolding is_named
  last_named (AtLimit l) s j n = refl
  last_named (Wide x reach c) s j n = refl
  last_named (Narrow x reach c) s j n = refl

  last_traded : (p : Pricing) (s : ℕ) (j : List Event) (n : ℕ) → traded_of n (show_last t p s j ++ older) ≡ traded_of n (j ++ older)
  unfolding traded_of
  last_traded (AtLimit l) s j n = refl
  last_traded (Wide x reach c) s j n = refl
  last_traded (Narrow x reach c) s j n = refl

  last_withdrawn : (p : Pricing) (s : ℕ) (j : List Event) (n : ℕ) → withdrawn_of n (show_last t p s j ++ older) ≡ withdrawn_of n (j ++ older)
  unfolding withdrawn_of
  last_withdrawn (AtLimit l) s j n = refl
  last_withdrawn (Wide x reach c) s j n = refl
  last_withdrawn (Narrow x reach c) s j n = refl

  first_last : (p : Pricing) (j : List Event) → last_trade_of t.number (show_first t p j ++ older) ≡ last_trade_of t.number (j ++ older)
  unfolding last_trade_of
  first_last (AtLimit l) j = refl
  first_last (Wide x reach c) j = refl
  first_last (Narrow x reach c) j = refl

  -- afterwards the balance displays where it rests
  last_self : (p : Pricing) (o : Option ℕ) (j f : List Event) → display_of t.number (f ++ older) ≡ display_of t.number (show_first t p j ++ older) → display_of t.number (show_last t p (restsAt p o) f ++ older) ≡ Some (restsAt p o)
  last_self (AtLimit l) o j f e = shown_self t.number l (f ++ older)
  last_self (Wide x reach c) o j f e = e ∙ shown_self t.number x (j ++ older)
  last_self (Narrow x reach c) o j f e = shown_self t.number (unwrap_or o x) (f ++ older)

-- the last trade of a taker that had none is the last that it took
note_price : (t : Taker) (q : ℕ) (r : Row) (j : List Trade) (J older : List Event) → last_trade_of t.number (noting j J ++ older) ≡ last_price j → last_trade_of t.number (noting (note q (trade_with t q r) j) J ++ older) ≡ last_price (note q (trade_with t q r) j)
unfolding last_trade_of
note_price t zero r j J older e = e
note_price t (suc q) r j J older e = or_else_true (is_party t.number (trade_with t (suc q) r)) r.display (last_trade_of t.number (noting j J ++ older)) (or_left (eqb t.number t.number) (eqb r.number t.number) (eq-eqb t.number t.number refl))

take_price : (due : ℕ) (t : Taker) (rs : List Row) (n : ℕ) (j : List Trade) (J older : List Event) → last_trade_of t.number (noting j J ++ older) ≡ last_price j → last_trade_of t.number (noting (take due t n rs j).trades J ++ older) ≡ last_price (take due t n rs j).trades
unfolding take
take_price due t [] n j J older e = e
take_price due t (r ∷ rs) n j J older e = let q = amount t n r in take_price due t rs (n - q) (note q (trade_with t q r) j) J older (note_price t q r j J older e)

-- a number that traded nothing has no last trade
untraded_last : (L : Ledger) (n : ℕ) (j : List Event) → AllFair L j → traded_of n j ≡ 0 → last_trade_of n j ≡ None
unfolding AllFair traded_of last_trade_of
untraded_last L n [] a z = refl
untraded_last L n (Shown i p ∷ j) a z = untraded_last L n j a.1 z
untraded_last L n (Moved i p ∷ j) a z = untraded_last L n j a.1 z
untraded_last L n (Traded t ∷ j) a z =
    decide (is_party n t)
    (λ e. let s : cond (is_party n t) t.size 0 ≡ t.size = rw e in let p = a.0.2.sized in absurd (omega arith))
    (λ e. or_else_false (is_party n t) t.price (last_trade_of n j) e ∙ untraded_last L n j a.1 (omega arith))
untraded_last L n (Withdrawn w ∷ j) a z = untraded_last L n j a.1 z

module _ (L : Ledger) where
  -- what is known of an order or quote as it is admitted
  pub record Terms (t : Ticket) (p : Pricing) : Type 0 where
    pub numbered : 0 < t.number
    pub priced : PricedAs p t.side t.limit (L.collar t.number)
    pub clears : (q : ℕ) → NoMoreAggressive t.side q t.limit → L.cleared t.number q
    pub brought : L.party t.number ≡ Some (record { series = t.series; side = t.side; limit = t.limit; size = t.size; maker = t.maker })
    pub welcomes : (k : ℕ) → t.maker ≡ Some k → L.welcome k t.series

  own_within : (t : Ticket) (p : Pricing) (j : List Event) → display_of t.number (j ++ L.past) ≡ None → PricedAs p t.side t.limit (L.collar t.number) → (q : ℕ) → NoMoreAggressive t.side q (reach_of p) → WithinCollar (L.collar t.number) t.number q (show_first t p j ++ L.past)
  own_within t (AtLimit l) j e h q n = rw h.0 tt
  own_within t (Wide x reach c) j e h q n = rw (h.1, shown_self t.number x (j ++ L.past)) (onward_near t.side x c t.limit q (subst (λ (y : ℕ). NoMoreAggressive t.side q y) h.2 n))
  own_within t (Narrow x reach c) j e h q n = rw (h.1, e) (onward_near t.side h.0.1 c t.limit q (subst (λ (y : ℕ). NoMoreAggressive t.side q y) h.2 n))

  -- the display price is the one that the rule gives
  given_first : (t : Ticket) (x reach c : ℕ) (o : Option Collar) (y : Party) (j : List Event) → PricedAs (Wide x reach c) t.side t.limit o → x ≡ given_by o y t.number j
  given_first t x reach c o y j h = rw (h.1, h.5) h.4

  given_last : (t : Ticket) (p : Pricing) (o : Option Collar) (y : Party) (last : Option ℕ) (j : List Event) → y.limit ≡ t.limit → PricedAs p t.side t.limit o → last_trade_of t.number j ≡ last → restsAt p last ≡ given_by o y t.number j
  given_last t (AtLimit l) o y last j e h z = rw h.0 (h.1 ∙ sym e)
  given_last t (Wide x reach c) o y last j e h z = rw (h.1, h.5) h.4
  given_last t (Narrow x reach c) o y last j e h z = rw (h.1, h.5, z) (ap (unwrap_or last) h.4)

  first_fair : (t : Ticket) (p : Pricing) (j : List Event) → ((q : ℕ) → NoMoreAggressive t.side q (reach_of p) → L.cleared t.number q) → PricedAs p t.side t.limit (L.collar t.number) → ((y : Party) × (L.party t.number ≡ Some y) × (y.limit ≡ t.limit)) → display_of t.number (j ++ L.past) ≡ None → AllFair L (j ++ L.past) → AllFair L (show_first t p j ++ L.past)
  unfolding AllFair
  first_fair t (AtLimit l) j clears h who e a = a
  first_fair t (Wide x reach c) j clears h who e a = ((clears x h.3, e, (who.0, who.1, given_first t x reach c (L.collar t.number) who.0 (j ++ L.past) h)), a)
  first_fair t (Narrow x reach c) j clears h who e a = a

  last_fair : (t : Ticket) (p : Pricing) (last : Option ℕ) (j f : List Event) → L.cleared t.number (restsAt p last) → PricedAs p t.side t.limit (L.collar t.number) → ((y : Party) × (L.party t.number ≡ Some y) × (y.limit ≡ t.limit)) → last_trade_of t.number (f ++ L.past) ≡ last → display_of t.number (j ++ L.past) ≡ None → display_of t.number (f ++ L.past) ≡ display_of t.number (show_first t p j ++ L.past) → AllFair L (f ++ L.past) → AllFair L (show_last t p (restsAt p last) f ++ L.past)
  unfolding AllFair
  last_fair t (AtLimit l) last j f h q who z e g a = ((h, g ∙ e, (who.0, who.1, given_last t (AtLimit l) (L.collar t.number) who.0 last (f ++ L.past) who.2 q z)), a)
  last_fair t (Wide x reach c) last j f h q who z e g a = a
  last_fair t (Narrow x reach c) last j f h q who z e g a = ((h, g ∙ e, (who.0, who.1, given_last t (Narrow x reach c) (L.collar t.number) who.0 last (f ++ L.past) who.2 q z)), a)

  -- what is known of the balance as it rests
  row_facts : (t : Ticket) (p : Pricing) → Terms t p → (due display n : ℕ) → Facts L (face (row_for due t p display n))
  row_facts t p terms due display n = by t.maker refl p terms.priced
    where
      brings : (o : Option ℕ) → t.maker ≡ o → L.party t.number ≡ Some (record { series = t.series; side = t.side; limit = t.limit; size = t.size; maker = o })
      brings o e = subst (λ (y : Option ℕ). L.party t.number ≡ Some (record { series = t.series; side = t.side; limit = t.limit; size = t.size; maker = y })) e terms.brought

      held : (c : ℕ) (y : ℕ × ℕ) → L.collar t.number ≡ Some (record { side = t.side; limit = t.limit; width = c; own = y.0; contra = y.1 }) → t.maker ≡ None → (x : Standing) → x ≡ cond (eqb display t.limit) Plain (Held c due) → Facts L (record { number = t.number; series = t.series; side = t.side; display = display; limit = t.limit; role = role_of x })
      held c y h e x is = rw is (cond_both (eqb display t.limit) Plain (Held c due) (λ z. Facts L (record { number = t.number; series = t.series; side = t.side; display = display; limit = t.limit; role = role_of z }))
          (λ z. record { clears = terms.clears; collared = inr (eqb-true display t.limit z, (c, (y, h))); brought = (t.size, brings None e); welcomes = tt })
          (λ z. record { clears = terms.clears; collared = (y, h); brought = (t.size, brings None e); welcomes = tt }))

      by : (o : Option ℕ) → t.maker ≡ o → (p : Pricing) → PricedAs p t.side t.limit (L.collar t.number) → Facts L (record { number = t.number; series = t.series; side = t.side; display = display; limit = t.limit; role = role_of (standing_by due display t.limit (collar_of p) o) })
      by (Some k) e p h = record { clears = terms.clears; collared = tt; brought = (t.size, brings (Some k) e); welcomes = terms.welcomes k e }
      by None e (AtLimit l) h = record { clears = terms.clears; collared = inl h.0; brought = (t.size, brings None e); welcomes = tt }
      by None e (Wide x reach c) h = held c h.0 h.1 e _ refl
      by None e (Narrow x reach c) h = held c h.0 h.1 e _ refl

  module _ {top : ℕ} (d : Desk) (ok : Settled L top d) (due : ℕ) (t : Ticket) (p : Pricing) (terms : Terms t p) (next : t.number ≡ suc top) where
    abbrev who : Taker
    who = taker t (reach_of p)

    unfoldable pub filled : Fill
    filled = take due who t.size d.rows []

    -- the journal once it has traded
    abbrev pub traded : List Event
    traded = noting filled.trades (show_first t p d.journal)

    quiet_own : Unheard t.number (whole L d)
    quiet_own = ok.1.quiet t.number (omega arith)

    other : (f : Face) → In f d.rows → f.number ≡ t.number → ⊥
    other f i e = let b = ok.0.0.numbered f i in omega arith

    within : NoMoreAggressive t.side (reach_of p) t.limit
    within = reach_within p t.side t.limit (L.collar t.number) terms.priced

    clears_reach : (q : ℕ) → NoMoreAggressive t.side q (reach_of p) → L.cleared t.number q
    clears_reach q h = terms.clears q (no_more_trans t.side q _ t.limit h within)

    bringing : (y : Party) × (L.party t.number ≡ Some y) × (y.limit ≡ t.limit)
    bringing = (record { series = t.series; side = t.side; limit = t.limit; size = t.size; maker = t.maker }, terms.brought, refl)

    fair : AllFair L (traded ++ L.past)
    unfolding filled
    fair =
        take_fair L due who d.rows t.size [] (show_first t p d.journal)
        (λ f i. ((ok.1.facts f i).clears f.display (ok.1.limits f i), first_other L.past t p d.journal f.number (other f i) ∙ ok.1.shown f i, known L f (ok.1.facts f i)))
        (record { series = t.series; side = t.side; limit = t.limit; size = t.size; maker = t.maker }, terms.brought, refl, refl)
        (λ q h. (clears_reach q h, own_within t p d.journal quiet_own.hidden terms.priced q h))
        (first_fair t p d.journal clears_reach terms.priced bringing quiet_own.hidden ok.1.fair)

    -- its last trade is the last that it took
    last_price_lem : last_trade_of t.number (traded ++ L.past) ≡ last_price filled.trades
    unfolding filled
    last_price_lem =
        take_price due who d.rows t.size [] (show_first t p d.journal) L.past
        (first_last L.past t p d.journal ∙ untraded_last L t.number (whole L d) ok.1.fair quiet_own.untraded)

    shown_traded : (n : ℕ) → display_of n (traded ++ L.past) ≡ display_of n (show_first t p d.journal ++ L.past)
    shown_traded n = noted_shown L.past filled.trades (show_first t p d.journal) n

    shown_others : (n : ℕ) → (n ≡ t.number → ⊥) → display_of n (traded ++ L.past) ≡ display_of n (whole L d)
    shown_others n h = shown_traded n ∙ first_other L.past t p d.journal n h

    named_same : (n : ℕ) → is_named n (traded ++ L.past) ≡ is_named n (whole L d)
    named_same n = noted_named L.past filled.trades (show_first t p d.journal) n ∙ first_named L.past t p d.journal n

    withdrawn_same : (n : ℕ) → withdrawn_of n (traded ++ L.past) ≡ withdrawn_of n (whole L d)
    withdrawn_same n = noted_withdrawn L.past filled.trades (show_first t p d.journal) n ∙ first_withdrawn L.past t p d.journal n

    old_in : (f : Face) → In f filled.rows → In f d.rows
    unfolding filled
    old_in f i = take_in due who d.rows t.size [] f i

    moved_sizes : (n : ℕ) → traded_of n (traded ++ L.past) + size_in n filled.rows + cond (eqb t.number n) filled.left 0 ≡ traded_of n (whole L d) + size_in n d.rows + cond (eqb t.number n) t.size 0
    unfolding filled
    moved_sizes n =
        let a = take_sizes L.past due who d.rows t.size [] (show_first t p d.journal) (λ f l o z. other f l z) n in
        omega (arith, first_traded L.past t p d.journal n)

    own_none : size_in t.number d.rows ≡ 0
    own_none = size_lacks t.number d.rows other

    sums : (n : ℕ) → n ≤ t.number → traded_of n (traded ++ L.past) + withdrawn_of n (traded ++ L.past) + size_in n filled.rows + cond (eqb t.number n) filled.left 0 ≡ size_of (L.party n)
    sums n h =
        ⊎_elim
        (λ e.
        let z : cond (eqb t.number n) t.size 0 ≡ t.size = rw (eq-eqb t.number n (sym e)) in
        let size : size_of (L.party n) ≡ t.size = ap (λ (y : ℕ). size_of (L.party y)) e ∙ ap size_of terms.brought in
        let a : traded_of n (whole L d) ≡ 0 = ap (λ (y : ℕ). traded_of y (whole L d)) e ∙ quiet_own.untraded in
        let b : size_in n d.rows ≡ 0 = ap (λ (y : ℕ). size_in y d.rows) e ∙ own_none in
        let c : withdrawn_of n (whole L d) ≡ 0 = ap (λ (y : ℕ). withdrawn_of y (whole L d)) e ∙ unnamed_withdrawn t.number (whole L d) quiet_own.unnamed in
        omega (arith, moved_sizes n, withdrawn_same n))
        (λ e.
        let z : cond (eqb t.number n) t.size 0 ≡ 0 = rw (ne_eqb t.number n (λ y. e (sym y))) in
        omega (arith, moved_sizes n, withdrawn_same n, ok.1.weighs n (omega arith)))
        (cases_eq n t.number)

    unheard : (n : ℕ) → t.number < n → Unheard n (traded ++ L.past)
    unheard n h =
        let q = ok.1.quiet n (omega arith) in
        let z : eqb t.number n ≡ false = ne_eqb t.number n (λ y. omega arith) in
        let a : cond (eqb t.number n) t.size 0 ≡ 0 = rw z in
        let b : size_in n d.rows ≡ 0 = size_lacks n d.rows (λ f i y. let b = ok.0.0.numbered f i in omega arith) in
        let c = q.untraded in
        record { hidden = shown_others n (λ y. omega arith) ∙ q.hidden; unnamed = named_same n ∙ q.unnamed; untraded = omega (arith, moved_sizes n) }

    taken_sane : Sane t.number filled.rows
    unfolding filled
    taken_sane = weaken t.number (omega arith) (take_sane ok.0.0 due who t.size)

    taken_told : filled.left ≡ 0 → Told L t.number (record { rows = filled.rows; journal = traded })
    taken_told e = record {
      limits = λ f i. ok.1.limits f (old_in f i);
      facts = λ f i. ok.1.facts f (old_in f i);
      shown = λ f i. shown_others f.number (other f (old_in f i)) ∙ ok.1.shown f (old_in f i);
      kept = λ f i. named_same f.number ∙ ok.1.kept f (old_in f i);
      fair = fair;
      quiet = unheard;
      weighs = λ n h. let z : cond (eqb t.number n) filled.left 0 ≡ 0 = ap (λ (y : ℕ). cond (eqb t.number n) y 0) e ∙ cond_zero (eqb t.number n) in omega (arith, sums n h);
    }

    -- where the balance displays
    abbrev resting : ℕ
    resting = restsAt p (last_price filled.trades)

    display_in : NoMoreAggressive t.side resting (reach_of p)
    unfolding filled
    display_in = rest_in t p (L.collar t.number) (last_price filled.trades) terms.priced (take_last due who d.rows t.size [] tt)

    clear : {n : ℕ} → filled.left ≡ suc n → (g : Face) → In g filled.rows → g.series ≡ t.series → g.side ≡ opposite t.side → Beyond t.side g.display (reach_of p)
    unfolding filled
    clear e g i s o = take_clear due who d.rows t.size [] ok.0.0.positive (omega arith) g i s o

    pub rest_sound : (n : ℕ) → filled.left ≡ n → Sound L t.number (rest due t p filled n traded) × Others t.series (rest due t p filled n traded).rows
    unfolding rest
    rest_sound zero e = ((taken_sane, taken_told e), λ f g i j h. ok.0.1 f g (old_in f i) (old_in g j))
    rest_sound (suc n) e =
        let x = row_for due t p resting (suc n) in
        let limit = no_more_trans t.side resting _ t.limit display_in within in
        let j = show_last t p resting traded in (
          (
            insert_sane taken_sane x (record {
              absent = λ f i. other f (old_in f i);
              sized = omega arith;
              numbered = (terms.numbered, omega arith);
              apart = λ g i s o. beyond_from t.side g.display (reach_of p) resting display_in (clear e g i (sym s) o);
            }),
            placed_told L d ok.1 filled.rows old_in x j
                (λ f i. other f (old_in f i))
                limit
                (row_facts t p terms due resting (suc n))
                (last_self L.past t p (last_price filled.trades) d.journal traded (shown_traded t.number))
                (last_named L.past t p resting traded t.number ∙ named_same t.number ∙ quiet_own.unnamed)
                (λ i h. last_other L.past t p resting traded i h ∙ shown_others i h)
                (λ i h. last_named L.past t p resting traded i ∙ named_same i)
                t.number
                (last_fair t p (last_price filled.trades) d.journal traded (terms.clears resting limit) terms.priced bringing last_price_lem quiet_own.hidden (shown_traded t.number) fair)
                (λ i h.
                let u = unheard i h in
                record {
                  hidden = last_other L.past t p resting traded i (λ y. omega arith) ∙ u.hidden;
                  unnamed = last_named L.past t p resting traded i ∙ u.unnamed;
                  untraded = last_traded L.past t p resting traded i ∙ u.untraded;
                })
                (λ i h. let z : cond (eqb t.number i) filled.left 0 ≡ cond (eqb t.number i) (suc n) 0 = ap (λ (y : ℕ). cond (eqb t.number i) y 0) e in omega (arith, sums i h, insert_size x filled.rows i, last_traded L.past t p resting traded i, last_withdrawn L.past t p resting traded i)),
          ),
          insert_others x filled.rows (λ f g i l. ok.0.1 f g (old_in f i) (old_in g l)),
        )

    pub rested_sane : Sane t.number (balanced due t p d).rows
    unfolding filled
    rested_sane = (rest_sound filled.left refl).0.0

    pub enter_settled : Settled L t.number (enter due t p d)
    unfolding enter filled
    enter_settled =
        let h = rest_sound filled.left refl in
        (serve_rested (balanced due t p d) due t.series h.0.0 h.1, (serve_sound L due t.series (balanced due t p d) h.0).1)

    -- an immediate order's balance lapses
    lapse_told : (n : ℕ) → filled.left ≡ n → Told L t.number (record { rows = filled.rows; journal = lapse t.number n traded })
    unfolding AllFair display_of traded_of withdrawn_of is_named
    lapse_told zero e = taken_told e
    lapse_told (suc n) e = record {
      limits = λ f i. ok.1.limits f (old_in f i);
      facts = λ f i. ok.1.facts f (old_in f i);
      shown = λ f i. shown_others f.number (other f (old_in f i)) ∙ ok.1.shown f (old_in f i);
      kept = λ f i. or_from (eqb t.number f.number) (is_named f.number (traded ++ L.past)) (ne_eqb t.number f.number (λ y. other f (old_in f i) (sym y))) (named_same f.number ∙ ok.1.kept f (old_in f i));
      fair = (tt, fair);
      quiet = λ i h. let u = unheard i h in record { hidden = u.hidden; unnamed = or_from (eqb t.number i) (is_named i (traded ++ L.past)) (ne_eqb t.number i (λ y. omega arith)) u.unnamed; untraded = u.untraded };
      weighs = λ i h. let z : cond (eqb t.number i) filled.left 0 ≡ cond (eqb t.number i) (suc n) 0 = ap (λ (y : ℕ). cond (eqb t.number i) y 0) e in omega (arith, sums i h);
    }

    pub lapsed_settled : Settled L t.number (record { rows = filled.rows; journal = lapse t.number filled.left traded })
    lapsed_settled = ((taken_sane, λ f g i j. ok.0.1 f g (old_in f i) (old_in g j)), lapse_told filled.left refl)

  pub enter_now_settled : {top : ℕ} (d : Desk) → Settled L top d → (due : ℕ) (t : Ticket) → Terms t (AtLimit t.limit) → t.number ≡ suc top → Settled L t.number (enter_now due t d)
  unfolding enter_now filled
  enter_now_settled d ok due t terms next = lapsed_settled d ok due t (AtLimit t.limit) terms next
