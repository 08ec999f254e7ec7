-- Entering in the code is entering by the definitions: the balance meets no row, and there is a place for it.
use Rattle.std.proofs.Common.{◌≡◌, ℕ, zero, suc, ◌<◌, ◌≤◌, max, Bool, true, false, not, ◌&&◌, eqb, ltb, List, [], ◌∷◌, ◌++◌, reverse, length, drop, Some, None, Option, unwrap_or, sym, refl, ap, ◌∙◌, subst, arith, length-take}
use mathlib.Core.List.{reverse-reverse}
use Rattle.std.specs.List.{AllByRecursion}
use Rattle.std.proofs.lemmas.Bool.{leb-true, leb-false, ne_eqb, not-true, cond_both}
use Rattle.values.specs.Sides.{NoMoreAggressive}
use Rattle.collars.specs.declared.pricing.Pricing.{Pricing}
use Rattle.collars.specs.declared.pricing.Pricing.TheVariants.{AtLimit, Wide, Narrow}
use Rattle.collars.specs.Pricings.{reach_of, display_of, collar_of}
use Rattle.rolls.specs.declared.roll.Roll.{Roll}
use Rattle.rolls.specs.Rolls.{Gains, room, filled}
use Rattle.rolls.proofs.Gaining.{room_after, gained_is}
use Rattle.book.specs.declared.row.Row.{Row}
use Rattle.book.specs.declared.row.Standing.{Standing}
use Rattle.book.specs.declared.row.Standing.TheVariants.{Plain, Held, Quote}
use Rattle.book.specs.declared.row.Taker.{Taker}
use Rattle.book.specs.declared.row.Trade.{Trade}
use Rattle.book.specs.declared.row.Withdrawal.{Withdrawal}
use Rattle.book.specs.Lists.{every, placed}
use Rattle.book.specs.Rows.{same_side, stands_at, precedes, crosses, same_maker, same_quote, agrees, Sound, insert}
use Rattle.book.specs.Taking.{Fill, take, Has, Fair, Took}
use Rattle.book.proofs.Keeps.{length_placed}
use Rattle.trading.specs.declared.ticket.Ticket.{Ticket}
use Rattle.trading.specs.Journals.{Event, trades_of, withdrawals_of, noting}
use Rattle.trading.specs.Desks.{Desk, highest, serve, taker, last_price, held_at, standing_by, row_for, show_first, rest_rows, rest, enter, lapse, enter_now}
use Rattle.trading.specs.Doing.{desk, Trading, Withdrawing, is_quote_of, rivals, displays_in_reach}
use Rattle.trading.proofs.Sides.{decide, no_more_refl, no_more_true, not_no_more, beyond_from}
use Rattle.trading.proofs.Faces.{Role, plain, held, quote, role_of, Face, face, face_series, face_side, In, take_in, has_in, take_clear, met_true, reach_true}
use Rattle.trading.proofs.Resting.{highest_in, highest_within}
use Rattle.trading.proofs.Volumes.{take_fewer, trades_noted, withdrawals_noted, reversed_length}
use Rattle.trading.proofs.Adds.{trading_then}
use Rattle.trading.proofs.Served.{serve_adds}
use Rattle.trading.proofs.Noted.{first_same, rest_same}
use Rattle.trading.proofs.Each.{every_has, every_from, in_has, sound_positive}

-- ---- the display price of the balance is within the reach

last_within : (t : Taker) (rs : List Row) (ts : List Trade) → AllByRecursion (Fair t rs) ts → (d : ℕ) → NoMoreAggressive t.side d t.reach → NoMoreAggressive t.side (unwrap_or (last_price ts) d) t.reach
last_within t rs [] a d h = h
last_within t rs (e ∷ es) a d h =
    let f = a.0 in
    let price : e.price ≡ f.0.display = ap (λ (x : Trade). x.price) f.5 in
    subst (λ (p : ℕ). NoMoreAggressive t.side p t.reach) (sym price) (reach_true t f.0 f.2).2

pub display_within : (t : Ticket) (p : Pricing) (rs : List Row) (ts : List Trade) → displays_in_reach t p ≡ true → AllByRecursion (Fair (taker t (reach_of p)) rs) ts → NoMoreAggressive t.side (display_of p (last_price ts)) (reach_of p)
display_within t (AtLimit limit) rs ts h a = no_more_refl t.side limit
display_within t (Wide display reach c) rs ts h a = no_more_true t.side display reach h
display_within t (Narrow untraded reach c) rs ts h a = last_within (taker t reach) rs ts a untraded (no_more_true t.side untraded reach h)

-- ---- the balance may rest with every row that is left

-- a rival by its face alone
rival_role : Option ℕ → Role → Bool
rival_role None x = false
rival_role (Some k) plain = false
rival_role (Some k) (held c) = false
rival_role (Some k) (quote i) = eqb k i

quote_role : (o : Option ℕ) (x : Standing) → is_quote_of o x ≡ rival_role o (role_of x)
unfolding rival_role
quote_role None x = refl
quote_role (Some k) Plain = refl
quote_role (Some k) (Held c m) = refl
quote_role (Some k) (Quote i) = refl

rival_face : (t : Ticket) (q r : Row) → face q ≡ face r → rivals t q ≡ rivals t r
rival_face t q r e =
    let role : is_quote_of t.maker q.standing ≡ is_quote_of t.maker r.standing = quote_role t.maker q.standing ∙ ap (λ (f : Face). rival_role t.maker f.role) e ∙ sym (quote_role t.maker r.standing) in
    λ i. (eqb (face_series e i) t.series && same_side (face_side e i) t.side) && role i

held_maker : (due display limit : ℕ) (o : Option ℕ) (x : Standing) → same_maker (held_at due display limit o) x ≡ false
held_maker due display limit None x = refl
held_maker due display limit (Some c) x = cond_both (eqb display limit) Plain (Held c due) (λ y. same_maker y x ≡ false) (λ e. refl) (λ e. refl)

maker_is : (due display limit : ℕ) (c o : Option ℕ) (x : Standing) → same_maker (standing_by due display limit c o) x ≡ is_quote_of o x
maker_is due display limit c None x = held_maker due display limit c x
maker_is due display limit c (Some k) Plain = refl
maker_is due display limit c (Some k) (Held b m) = refl
maker_is due display limit c (Some k) (Quote i) = refl

module _ (due : ℕ) (t : Ticket) (p : Pricing) (rs : List Row) (sound : Sound rs) (numbers : highest rs < t.number) (quotes : every (λ r. not (rivals t r)) rs ≡ true) (fits : displays_in_reach t p ≡ true) where
  abbrev fill : Fill
  fill = take due (taker t (reach_of p)) t.size rs []

  abbrev display : ℕ
  display = display_of p (last_price fill.trades)

  module _ (fair : AllByRecursion (Fair (taker t (reach_of p)) rs) fill.trades) (left : 0 < fill.left) (n : ℕ) where
    old : (q : Row) → Has q fill.rows → In (face q) rs
    old q h = take_in due (taker t (reach_of p)) rs t.size [] (face q) (has_in q fill.rows h)

    -- the number is unused
    number_new : (q : Row) → Has q fill.rows → eqb t.number q.number ≡ false
    number_new q h = ne_eqb t.number q.number (λ e. let b = highest_in rs (face q) (old q h) in omega arith)

    -- it crosses no row
    cross_none : (q : Row) → Has q fill.rows → crosses (row_for due t p display n) q ≡ false
    cross_none q h =
        decide (crosses (row_for due t p display n) q)
        (λ e.
        let m = met_true t.series t.side display q e in
        let clear = take_clear due (taker t (reach_of p)) rs t.size [] (sound_positive rs sound) left (face q) (has_in q fill.rows h) m.0 m.1 in
        absurd (not_no_more t.side q.display display (beyond_from t.side q.display (reach_of p) display (display_within t p rs fill.trades fits fair) clear) m.2))
        (λ e. e)

    -- it is no second quote of its maker
    quote_none : (q : Row) → Has q fill.rows → same_quote (row_for due t p display n) q ≡ false
    quote_none q h =
        let i = in_has (face q) rs (old q h) in
        let mine : not (rivals t i.0) ≡ true = every_has (λ r. not (rivals t r)) rs quotes i.0 i.1 in
        ap (λ (b : Bool). stands_at t.series t.side q && b) (maker_is due display t.limit (collar_of p) t.maker q.standing)
        ∙ rival_face t q i.0 i.2
        ∙ not-true (rivals t i.0) mine

    pub rests_with : every (agrees (row_for due t p display n)) fill.rows ≡ true
    rests_with = every_from (agrees (row_for due t p display n)) fill.rows (λ q h.
        rw (number_new q h, cross_none q h, quote_none q h))

-- ---- rows after the balance came to rest

pub highest_insert : (x : Row) (xs : List Row) → highest (insert x xs) ≡ max x.number (highest xs)
unfolding placed
highest_insert x [] = refl
highest_insert x (y ∷ ys) = cond_both (precedes x y) (x ∷ (y ∷ ys)) (y ∷ insert x ys) (λ l. highest l ≡ max x.number (highest (y ∷ ys))) (λ e. refl) (λ e. let h = highest_insert x ys in omega arith)

rest_rows_zero : (due : ℕ) (t : Ticket) (p : Pricing) (last : Option ℕ) (rs : List Row) (n : ℕ) → n ≡ 0 → rest_rows due t p last rs n ≡ rs
rest_rows_zero due t p last rs zero e = refl
rest_rows_zero due t p last rs (suc n) e = absurd (omega arith)

pub rest_rows_some : (due : ℕ) (t : Ticket) (p : Pricing) (last : Option ℕ) (rs : List Row) (n : ℕ) → 0 < n → rest_rows due t p last rs n ≡ insert (row_for due t p (display_of p last) n) rs
rest_rows_some due t p last rs zero e = absurd (omega arith)
rest_rows_some due t p last rs (suc n) e = refl

rest_highest : (due : ℕ) (t : Ticket) (p : Pricing) (last : Option ℕ) (rs : List Row) (n : ℕ) → highest (rest_rows due t p last rs n) ≤ max t.number (highest rs)
rest_highest due t p last rs zero = omega arith
rest_highest due t p last rs (suc n) = omega (arith, highest_insert (row_for due t p (display_of p last) (suc n)) rs)

-- ---- the whole of it

-- what was taken, and at which price last
pub record Filled (due : ℕ) (t : Ticket) (p : Pricing) (rs₀ mid : List Row) (roll₀ roll₁ : Roll Trade) (left : ℕ) (last : Option ℕ) : Type 0 where
  pub took : Took due (taker t (reach_of p)) t.size left rs₀ mid roll₀ roll₁
  pub price : last ≡ last_price (take due (taker t (reach_of p)) t.size rs₀ []).trades

-- as the code has it: `seen` are the rows of the roll as the order enters
pub fills : (t : Ticket) (p : Pricing) {due : ℕ} {who : Taker} {reach : ℕ} {rs₀ mid : List Row} {roll₀ roll₁ : Roll Trade} {left : ℕ} {seen : List Trade} {last : Option ℕ} → who ≡ taker t reach → reach ≡ reach_of p → Took due who t.size left rs₀ mid roll₀ roll₁ → seen ≡ filled roll₀ → last ≡ last_price (reverse (drop (length seen) (filled roll₁))) → Filled due t p rs₀ mid roll₀ roll₁ left last
fills t p {due} {who} {reach} {rs₀} {mid} {roll₀} {roll₁} {left} {seen} {last} e r by s z = record { took = took; price = z ∙ ap (λ (xs : List Trade). last_price (reverse xs)) (ap (λ (k : ℕ). drop k (filled roll₁)) n ∙ gained_is roll₀ roll₁ _ took.gains) ∙ ap last_price (reverse-reverse (take due (taker t (reach_of p)) t.size rs₀ []).trades) }
  where
    took : Took due (taker t (reach_of p)) t.size left rs₀ mid roll₀ roll₁
    took = subst (λ (x : Taker). Took due x t.size left rs₀ mid roll₀ roll₁) (e ∙ ap (taker t) r) by

    n : length seen ≡ roll₀.slots.count
    n = ap length s ∙ simp length-take (let w = roll₀.within in omega arith)

module _ {due : ℕ} {t : Ticket} {p : Pricing} {rs₀ mid : List Row} {roll₀ roll₁ : Roll Trade} {left : ℕ} {last : Option ℕ} (u : Filled due t p rs₀ mid roll₀ roll₁ left last) where
  abbrev filling : Fill
  filling = take due (taker t (reach_of p)) t.size rs₀ []

  some_left : 0 < left → 0 < filling.left
  some_left h = subst (λ (n : ℕ). 0 < n) u.took.leaves h

  -- the balance has a place, and may rest there
  pub rest_place : Sound rs₀ → length rs₀ < 256 → 0 < left → length mid < 256
  rest_place sound place h =
      let n = ap length u.took.rests in
      let few = take_fewer due (taker t (reach_of p)) rs₀ t.size [] (sound_positive rs₀ sound) (some_left h) in
      omega arith

  pub rest_fits : Sound rs₀ → highest rs₀ < t.number → every (λ r. not (rivals t r)) rs₀ ≡ true → displays_in_reach t p ≡ true → 0 < left → every (agrees (row_for due t p (display_of p last) left)) mid ≡ true
  rest_fits sound numbers quotes fits h =
      subst (λ (x : Option ℕ). every (agrees (row_for due t p (display_of p x) left)) mid ≡ true) (sym u.price)
      (subst (λ (xs : List Row). every (agrees (row_for due t p (display_of p (last_price filling.trades)) left)) xs ≡ true) (sym u.took.rests)
      (rests_with due t p rs₀ sound numbers quotes fits u.took.fair (some_left h) left))

  module _ {rested : List Row} (rests : rested ≡ rest_rows due t p last mid left) where
    pub serve_place : Sound rs₀ → length rs₀ < room roll₀ → length rested ≤ room roll₁
    serve_place sound roomy =
        let g = room_after roll₀ roll₁ _ u.took.gains in
        let n = reversed_length filling.trades in
        let m = ap length u.took.rests in
        let few = u.took.few in
        decide (ltb 0 left)
        (λ e.
        let l = leb-true 1 left e in
        let fewer = take_fewer due (taker t (reach_of p)) rs₀ t.size [] (sound_positive rs₀ sound) (some_left l) in
        let one : length rested ≡ suc (length mid) = ap length (rests ∙ rest_rows_some due t p last mid left l) ∙ length_placed _ (row_for due t p (display_of p last) left) mid in
        omega arith)
        (λ e.
        let z = leb-false 1 left e in
        let same : length rested ≡ length mid = ap length (rests ∙ rest_rows_zero due t p last mid left (omega arith)) in
        omega arith)

    pub serve_numbers : {top : ℕ} → highest rs₀ < t.number → t.number < top → highest rested < top
    serve_numbers numbers number =
        let a : highest rested ≤ max t.number (highest mid) = subst (λ (xs : List Row). highest xs ≤ max t.number (highest mid)) (sym rests) (rest_highest due t p last mid left) in
        let b : highest mid ≤ highest rs₀ = subst (λ (xs : List Row). highest xs ≤ highest rs₀) (sym u.took.rests) (highest_within filling.rows rs₀ (take_in due (taker t (reach_of p)) rs₀ t.size [])) in
        omega arith

    pub entered : {after : List Row} {roll₂ : Roll Trade} → Trading after roll₁ roll₂ (serve due t.series (desk rested)) → Trading after roll₀ roll₂ (enter due t p (desk rs₀))
    unfolding enter rest
    entered {after} {roll₂} did =
        let j = noting filling.trades (show_first t p []) in
        let d : Desk = rest due t p filling filling.left j in
        let mine : trades_of d.journal ≡ reverse filling.trades = (rest_same t p _ filling.left j).1 ∙ trades_noted filling.trades (show_first t p []) ∙ ap (λ (ys : List Trade). ys ++ reverse filling.trades) (first_same t p []).1 in
        let start : Trading rested roll₀ roll₁ d = record {
          rests = rests ∙ (λ i. rest_rows due t p (u.price i) (u.took.rests i) (u.took.leaves i));
          gains = subst (Gains roll₀ roll₁) (sym mine) u.took.gains;
        } in
        trading_then (serve due t.series) (serve_adds due t.series) d rested after roll₀ roll₁ roll₂ start did

-- ---- an immediate order

lapse_trades : (n left : ℕ) (j : List Event) → trades_of (lapse n left j) ≡ trades_of j
lapse_trades n zero j = refl
lapse_trades n (suc left) j = refl

lapse_withdrawals : (n left : ℕ) (j : List Event) → withdrawals_of j ≡ [] → withdrawals_of (lapse n left j) ≡ withdrawals_of (lapse n left [])
lapse_withdrawals n zero j e = e
lapse_withdrawals n (suc left) j e = ap (λ (ws : List Withdrawal). ws ++ (record { number = n; left = suc left } ∷ [])) e

pub entered_now : (due : ℕ) (t : Ticket) (who : Taker) → who ≡ taker t t.limit → (rs after : List Row) (roll₀ roll : Roll Trade) (wolls₀ wolls : Roll Withdrawal) (left : ℕ) → Took due who t.size left rs after roll₀ roll → Gains wolls₀ wolls (withdrawals_of (lapse t.number left [])) → Trading after roll₀ roll (enter_now due t (desk rs)) × Withdrawing after wolls₀ wolls (enter_now due t (desk rs))
unfolding enter_now
entered_now due t who e rs after roll₀ roll wolls₀ wolls left by gained =
    let took : Took due (taker t t.limit) t.size left rs after roll₀ roll = subst (λ (x : Taker). Took due x t.size left rs after roll₀ roll) e by in
    let f = take due (taker t t.limit) t.size rs [] in (
      record {
        rests = took.rests;
        gains = subst (Gains roll₀ roll) (sym (lapse_trades t.number f.left (noting f.trades []) ∙ trades_noted f.trades [])) took.gains;
      },
      record {
        rests = took.rests;
        gains = subst (Gains wolls₀ wolls) (ap (λ (n : ℕ). withdrawals_of (lapse t.number n [])) took.leaves ∙ sym (lapse_withdrawals t.number f.left (noting f.trades []) (withdrawals_noted f.trades []))) gained;
      },
    )
