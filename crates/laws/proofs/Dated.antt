-- Throughout a call, the moment of each held order is the one that the history gives it.
use Rattle.std.proofs.Common.{◌≡◌, ℕ, zero, suc, ◌+◌, ◌-◌, ◌<◌, Bool, true, false, eqb, ltb, ◌⊎◌, List, [], ◌∷◌, Some, None, Option, sym, refl, ap, ◌∙◌, subst, inl, inr, ⊎_elim, arith}
use Rattle.std.proofs.lemmas.Bool.{ltb-true, ltb-false, eqb-true, eqb-false, eq-eqb, ne_eqb, or_left, or_right, or_from, cond_both}
use Rattle.collars.specs.declared.pricing.Pricing.{Pricing}
use Rattle.collars.specs.declared.pricing.Pricing.TheVariants.{AtLimit, Wide, Narrow}
use Rattle.collars.specs.Pricings.{reach_of, display_of as restsAt, collar_of}
use Rattle.book.specs.declared.row.Row.{Row}
use Rattle.book.specs.declared.row.Standing.{Standing}
use Rattle.book.specs.declared.row.Standing.TheVariants.{Plain, Held, Quote}
use Rattle.book.specs.declared.row.Taker.{Taker}
use Rattle.book.specs.declared.row.Trade.{Trade}
use Rattle.book.specs.Lists.{placed, lacking}
use Rattle.book.specs.Rows.{precedes, numbered, insert, without, row_of, renewed, resized, put, cut, settle, once_moved, moved_to}
use Rattle.book.specs.Taking.{amount, note, Fill, take, Has}
use Rattle.book.specs.Trades.{trade_with}
use Rattle.trading.specs.declared.ticket.Ticket.{Ticket}
use Rattle.trading.specs.Journals.{Event, Shown, Moved, Traded, noting}
use Rattle.trading.specs.Desks.{Desk, taker_of, serve_row, serve, pull, second_after, move_on, taker, last_price, standing_by, row_for, show_first, show_last, rest, enter, lapse, enter_now}
use Rattle.trading.proofs.Sides.{decide, not_opposite}
use Rattle.trading.proofs.Faces.{face, has_in, row_of_has, Lacks, Distinct, take_in, take_distinct, take_has, take_left}
use Rattle.trading.proofs.Resting.{Sane, Rested, serve_row_sane, moved_rows, onwards}
use Rattle.trading.proofs.Timings.{row_of_of}
use Rattle.laws.specs.Displays.{is_party}
use Rattle.laws.specs.Moments.{due_in}
use Rattle.laws.proofs.Enters.{balanced}
use Rattle.laws.proofs.Keeping.{serve_keeps, pull_keeps}
use Rattle.laws.proofs.Words.{or_else_true, or_else_false}
use Rattle.laws.proofs.Sizes.{amount_le}

-- a held order's moment is the one given
abbrev pub DatedAs : Standing → Option ℕ → Type 0
DatedAs Plain o = Unit {0}
DatedAs (Held c d) o = o ≡ Some d
DatedAs (Quote m) o = Unit {0}

-- ---- which rows there are

has_insert : (x : Row) (xs : List Row) (r : Row) → Has r (insert x xs) → (r ≡ x) ⊎ Has r xs
unfolding placed
has_insert x [] r h = h
has_insert x (y ∷ ys) r h =
    cond_both (precedes x y) (x ∷ (y ∷ ys)) (y ∷ insert x ys) (λ l. Has r l → (r ≡ x) ⊎ Has r (y ∷ ys))
    (λ e i. i)
    (λ e i. ⊎_elim (λ g. inr (inl g)) (λ g. ⊎_elim inl (λ l. inr (inr l)) (has_insert x ys r g)) i)
    h

has_without : (n : ℕ) (xs : List Row) (r : Row) → Has r (without n xs) → Has r xs × (r.number ≡ n → ⊥)
unfolding lacking
has_without n [] r h = absurd h
has_without n (x ∷ xs) r h =
    cond_both (numbered n x) (without n xs) (x ∷ without n xs) (λ l. Has r l → Has r (x ∷ xs) × (r.number ≡ n → ⊥))
    (λ e i. let g = has_without n xs r i in (inr g.0, g.1))
    (λ e i. ⊎_elim (λ g. (inl g, λ z. eqb-false x.number n e (sym (ap (λ (y : Row). y.number) g) ∙ z))) (λ g. let l = has_without n xs r g in (inr l.0, l.1)) i)
    h

-- what holds of the row, of the row resized and of the others holds of all after the row traded q contracts
cut_each : (P : Row → Type 0) (due q : ℕ) (r : Row) (xs : List Row) → (q ≡ 0 → P r) → ((n : ℕ) → 0 < q → P (resized due n r)) → ((y : Row) → Has y xs → P y) → (y : Row) → Has y (cut due q r xs) → P y
cut_each P due zero r xs same new rest y (inl e) = subst P (sym e) (same refl)
cut_each P due zero r xs same new rest y (inr i) = rest y i
cut_each P due (suc q) r xs same new rest y h = by (r.size - suc q) h
  where
    by : (n : ℕ) → Has y (put due n r xs) → P y
    by zero i = rest y i
    by (suc n) (inl e) = subst P (sym e) (new (suc n) (omega arith))
    by (suc n) (inr i) = rest y i

-- ---- the moments, in a call that leaves the clock at k, by those before it

module _ (k : ℕ) (was : ℕ → Option ℕ) where
  abbrev pub at : ℕ → List Event → Option ℕ
  at n j = due_in n k j (was n)

  abbrev due : ℕ
  due = k + 1000

  unfoldable pub Dated : List Event → List Row → Type 0
  Dated j xs = (r : Row) → Has r xs → DatedAs r.standing (at r.number j)

  -- but for the row n
  abbrev DatedBut : ℕ → List Event → List Row → Type 0
  DatedBut n j xs = (r : Row) → Has r xs → (r.number ≡ n → ⊥) → DatedAs r.standing (at r.number j)

  renewed_dated : (x : Standing) (o : Option ℕ) → o ≡ Some due → DatedAs (renewed due x) o
  renewed_dated Plain o e = tt
  renewed_dated (Held c d) o e = e
  renewed_dated (Quote m) o e = tt

  -- ---- trades

  traded_at : (t : Trade) (i : ℕ) (j : List Event) → is_party i t ≡ true → at i (Traded t ∷ j) ≡ Some due
  unfolding due_in
  traded_at t i j e = or_else_true (is_party i t) due (at i j) e

  not_traded : (t : Trade) (i : ℕ) (j : List Event) → is_party i t ≡ false → at i (Traded t ∷ j) ≡ at i j
  unfolding due_in
  not_traded t i j e = or_else_false (is_party i t) due (at i j) e

  -- who is due a second from now stays so while it trades
  noted_due : (ts : List Trade) (i : ℕ) (j : List Event) → at i j ≡ Some due → at i (noting ts j) ≡ Some due
  noted_due [] i j e = e
  noted_due (t ∷ ts) i j e = decide (is_party i t) (λ z. traded_at t i (noting ts j) z) (λ z. not_traded t i (noting ts j) z ∙ noted_due ts i j e)

  note_other : (q : ℕ) (t : Taker) (r : Row) (j : List Trade) (J : List Event) (i : ℕ) → (i ≡ t.number → ⊥) → (i ≡ r.number → ⊥) → at i (noting (note q (trade_with t q r) j) J) ≡ at i (noting j J)
  note_other zero t r j J i a b = refl
  note_other (suc q) t r j J i a b = not_traded (trade_with t (suc q) r) i (noting j J) (or_from (eqb t.number i) (eqb r.number i) (ne_eqb t.number i (λ z. a (sym z))) (ne_eqb r.number i (λ z. b (sym z))))

  note_resting : (q : ℕ) (t : Taker) (r : Row) (j : List Trade) (J : List Event) → 0 < q → at r.number (noting (note q (trade_with t q r) j) J) ≡ Some due
  note_resting zero t r j J h = absurd (omega arith)
  note_resting (suc q) t r j J h = traded_at (trade_with t (suc q) r) r.number (noting j J) (or_right (eqb t.number r.number) (eqb r.number r.number) (eq-eqb r.number r.number refl))

  note_taker : (q : ℕ) (t : Taker) (r : Row) (j : List Trade) (J : List Event) → 0 < q → at t.number (noting (note q (trade_with t q r) j) J) ≡ Some due
  note_taker zero t r j J h = absurd (omega arith)
  note_taker (suc q) t r j J h = traded_at (trade_with t (suc q) r) t.number (noting j J) (or_left (eqb t.number t.number) (eqb r.number t.number) (eq-eqb t.number t.number refl))

  note_none : (q : ℕ) (e : Trade) (j : List Trade) → q ≡ 0 → note q e j ≡ j
  note_none zero e j h = refl
  note_none (suc q) e j h = absurd (omega arith)

  -- who is no party to the taker's trades keeps its moment
  take_other : (t : Taker) (rs : List Row) (n : ℕ) (j : List Trade) (J : List Event) (i : ℕ) → (i ≡ t.number → ⊥) → Lacks i rs → at i (noting (take due t n rs j).trades J) ≡ at i (noting j J)
  unfolding take
  take_other t [] n j J i a l = refl
  take_other t (r ∷ rs) n j J i a l = let q = amount t n r in take_other t rs (n - q) (note q (trade_with t q r) j) J i a (λ f h. l f (inr h)) ∙ note_other q t r j J i a (λ z. l (face r) (inl refl) (sym z))

  pub take_dated : (t : Taker) (rs : List Row) (n : ℕ) (j : List Trade) (J : List Event) → Distinct rs → DatedBut t.number (noting j J) rs → DatedBut t.number (noting (take due t n rs j).trades J) (take due t n rs j).rows
  unfolding take
  take_dated t [] n j J u h = λ y i o. absurd i
  take_dated t (r ∷ rs) n j J u h =
      let q = amount t n r in
      let j' = note q (trade_with t q r) j in
      let fin = noting (take due t (n - q) rs j').trades J in
      cut_each (λ y. (y.number ≡ t.number → ⊥) → DatedAs y.standing (at y.number fin)) due q r (take due t (n - q) rs j').rows
      (λ z o. subst (DatedAs r.standing) (sym (take_other t rs (n - q) j' J r.number o u.0 ∙ ap (λ (ts : List Trade). at r.number (noting ts J)) (note_none q (trade_with t q r) j z))) (h r (inl refl) o))
      (λ left p o. renewed_dated r.standing (at r.number fin) (take_other t rs (n - q) j' J r.number o u.0 ∙ note_resting q t r j J p))
      (take_dated t rs (n - q) j' J u.1
      (λ y i o. subst (DatedAs y.standing) (sym (note_other q t r j J y.number o (λ z. u.0 (face y) (has_in y rs i) z))) (h y (inr i) o)))

  take_still : (t : Taker) (rs : List Row) (n : ℕ) (j : List Trade) (J : List Event) → at t.number (noting j J) ≡ Some due → at t.number (noting (take due t n rs j).trades J) ≡ Some due
  unfolding take
  take_still t [] n j J e = e
  take_still t (r ∷ rs) n j J e =
      let q = amount t n r in
      take_still t rs (n - q) (note q (trade_with t q r) j) J
      (decide (ltb 0 q)
      (λ l. note_taker q t r j J (ltb-true 0 q l))
      (λ l. ap (λ (ts : List Trade). at t.number (noting ts J)) (note_none q (trade_with t q r) j (let x = ltb-false 0 q l in omega arith)) ∙ e))

  -- a taker that traded is due a second from now; one that did not has no trade
  take_own : (t : Taker) (rs : List Row) (n : ℕ) (j : List Trade) (J : List Event) → (take due t n rs j).left < n → at t.number (noting (take due t n rs j).trades J) ≡ Some due
  unfolding take
  take_own t [] n j J l = absurd (omega arith)
  take_own t (r ∷ rs) n j J l =
      let q = amount t n r in
      let j' = note q (trade_with t q r) j in
      decide (ltb (take due t (n - q) rs j').left (n - q))
      (λ e. take_own t rs (n - q) j' J (ltb-true (take due t (n - q) rs j').left (n - q) e))
      (λ e. let x = ltb-false (take due t (n - q) rs j').left (n - q) e in take_still t rs (n - q) j' J (note_taker q t r j J (omega arith)))

  pub take_idle : (t : Taker) (rs : List Row) (n : ℕ) (j : List Trade) → (take due t n rs j).left ≡ n → (take due t n rs j).trades ≡ j
  unfolding take
  take_idle t [] n j e = refl
  take_idle t (r ∷ rs) n j e =
      let q = amount t n r in
      let b = amount_le t n r in
      let j' = note q (trade_with t q r) j in
      let l = take_left due t rs (n - q) j' in
      take_idle t rs (n - q) j' (omega arith) ∙ note_none q (trade_with t q r) j (omega arith)

  settle_dated : (q n : ℕ) (xs : List Row) (j : List Event) → Distinct xs → (0 < q → at n j ≡ Some due) → (q ≡ 0 → (r : Row) → Has r xs → r.number ≡ n → DatedAs r.standing (at r.number j)) → DatedBut n j xs → (y : Row) → Has y (settle due q n xs) → DatedAs y.standing (at y.number j)
  unfolding settle
  settle_dated q n [] j u new same h y i = absurd i
  settle_dated q n (x ∷ xs) j u new same h y i =
      cond_both (numbered n x) (cut due q x xs) (x ∷ settle due q n xs) (λ l. Has y l → DatedAs y.standing (at y.number j))
      (λ e g.
      let is : x.number ≡ n = eqb-true x.number n e in
      cut_each (λ w. DatedAs w.standing (at w.number j)) due q x xs
      (λ z. same z x (inl refl) is)
      (λ left p. renewed_dated x.standing (at x.number j) (ap (λ (w : ℕ). at w j) is ∙ new p))
      (λ w l. h w (inr l) (λ z. u.0 (face w) (has_in w xs l) (z ∙ sym is)))
      y g)
      (λ e g. ⊎_elim
      (λ z. subst (λ (w : Row). DatedAs w.standing (at w.number j)) (sym z) (h x (inl refl) (eqb-false x.number n e)))
      (λ z. settle_dated q n xs j u.1 new (λ s r l. same s r (inr l)) (λ r l. h r (inr l)) y z)
      g)
      i

  -- ---- serving

  serve_row_dated : {top : ℕ} (d : Desk) → Sane top d.rows → (r : Row) (c m : ℕ) → Has r d.rows → r.standing ≡ Held c m → Dated d.journal d.rows → Dated (serve_row due r c d).journal (serve_row due r c d).rows
  unfolding Dated serve_row
  serve_row_dated d ok r c m has how h =
      let t = taker_of r c in
      let f = take due t r.size d.rows [] in
      let j = noting f.trades d.journal in
      let u = take_distinct due t d.rows r.size [] ok.distinct in
      let left = take_left due t d.rows r.size [] in
      let there = take_has due t d.rows r.size [] r (not_opposite r.side) has in
      settle_dated (r.size - f.left) r.number f.rows j u
      (λ p. take_own t d.rows r.size [] d.journal (omega arith))
      (λ z w i e.
      let one : w ≡ r = same_row f.rows w u i there e in
      let none : f.trades ≡ [] = take_idle t d.rows r.size [] (omega arith) in
      subst (λ (y : Row). DatedAs y.standing (at y.number j)) (sym one) (subst (λ (ts : List Trade). DatedAs r.standing (at r.number (noting ts d.journal))) (sym none) (h r has)))
      (take_dated t d.rows r.size [] d.journal ok.distinct (λ y i o. h y i))
    where
      same_row : (xs : List Row) (w : Row) → Distinct xs → Has w xs → Has r xs → w.number ≡ r.number → w ≡ r
      same_row xs w u i l e = some_same w r (sym (row_of_of w xs u i) ∙ ap (λ (y : ℕ). row_of y xs) e ∙ row_of_of r xs u l)
        where
          some_same : (a b : Row) → Some a ≡ Some b → a ≡ b
          some_same a b e = cc

  pub serve_dated : {top : ℕ} (s : ℕ) (d : Desk) → Sane top d.rows → Dated d.journal d.rows → Dated (serve due s d).journal (serve due s d).rows
  serve_dated {top} s d ok h =
      (serve_keeps (λ x. Sane top x.rows × Dated x.journal x.rows) due s
      (λ x r c m has how p. (serve_row_sane x p.0 due r c m has how, serve_row_dated x p.0 r c m has how p.1))
      d (ok, h)).1

  -- ---- withdrawing

  pub pull_dated : (q : Row → Bool) (d : Desk) → Dated d.journal d.rows → Dated (pull q d).journal (pull q d).rows
  unfolding Dated due_in
  pull_dated q d h = pull_keeps (λ x. Dated x.journal x.rows) q (λ x r has z p y i. p y (has_without r.number x.rows y i).0) d h

  -- ---- moving

  moved_at : (n p : ℕ) (j : List Event) (m : ℕ) → at n j ≡ Some m → at n (Moved n p ∷ j) ≡ Some (m + 1000)
  unfolding due_in
  moved_at n p j m e = rw (eq-eqb n n refl, e)

  not_moved : (n i p : ℕ) (j : List Event) → (n ≡ i → ⊥) → at n (Moved i p ∷ j) ≡ at n j
  unfolding due_in
  not_moved n i p j h = rw (ne_eqb i n (λ z. h (sym z)))

  pub move_on_dated : {top : ℕ} (d : Desk) → Rested top d.rows → (r : Row) (c m : ℕ) → row_of r.number d.rows ≡ Some r → r.standing ≡ Held c m → Dated d.journal d.rows → Dated (move_on r c m d).journal (move_on r c m d).rows
  unfolding Dated move_on
  move_on_dated d ok r c m is how h =
      let has = row_of_has r.number d.rows r is in
      let was_due : at r.number d.journal ≡ Some m = subst (λ (x : Standing). DatedAs x (at r.number d.journal)) how (h r has) in
      let to = onwards r c in
      let x = moved_to to (second_after m) r in
      let j = Moved r.number to ∷ d.journal in
      subst (λ (xs : List Row). (y : Row) → Has y xs → DatedAs y.standing (at y.number j)) (sym (moved_rows d ok r c m m is how))
      (λ y i. ⊎_elim
      (λ e. subst (λ (w : Row). DatedAs w.standing (at w.number j)) (sym e) (subst (λ (w : Standing). DatedAs (once_moved (eqb to r.limit) (second_after m) w) (at r.number j)) (sym how) (by (eqb to r.limit) (moved_at r.number to d.journal m was_due))))
      (λ e. let g = has_without r.number d.rows y e in subst (DatedAs y.standing) (sym (not_moved y.number r.number to d.journal g.1)) (h y g.0))
      (has_insert x (without r.number d.rows) y i))
    where
      by : (b : Bool) {o : Option ℕ} → o ≡ Some (m + 1000) → DatedAs (once_moved b (second_after m) (Held c m)) o
      by true e = tt
      by false e = e

  -- ---- entering

  shown_due : (n p : ℕ) (j : List Event) → at n (Shown n p ∷ j) ≡ Some due
  unfolding due_in
  shown_due n p j = or_else_true (eqb n n) due (at n j) (eq-eqb n n refl)

  not_shown : (n i p : ℕ) (j : List Event) → (n ≡ i → ⊥) → at n (Shown i p ∷ j) ≡ at n j
  unfolding due_in
  not_shown n i p j h = or_else_false (eqb i n) due (at n j) (ne_eqb i n (λ z. h (sym z)))

  first_at : (t : Ticket) (p : Pricing) (j : List Event) (n : ℕ) → (n ≡ t.number → ⊥) → at n (show_first t p j) ≡ at n j
  first_at t (AtLimit l) j n h = refl
  first_at t (Wide x reach c) j n h = not_shown n t.number x j h
  first_at t (Narrow x reach c) j n h = refl

  last_at : (t : Ticket) (p : Pricing) (s : ℕ) (j : List Event) (n : ℕ) → (n ≡ t.number → ⊥) → at n (show_last t p s j) ≡ at n j
  last_at t (AtLimit l) s j n h = not_shown n t.number s j h
  last_at t (Wide x reach c) s j n h = refl
  last_at t (Narrow x reach c) s j n h = not_shown n t.number s j h

  -- a balance that rests is due a second from now
  last_due : (t : Ticket) (p : Pricing) (s : ℕ) (j : List Event) (ts : List Trade) → at t.number (show_last t p s (noting ts (show_first t p j))) ≡ Some due
  last_due t (AtLimit l) s j ts = shown_due t.number s (noting ts j)
  last_due t (Wide x reach c) s j ts = noted_due ts t.number (Shown t.number x ∷ j) (shown_due t.number x j)
  last_due t (Narrow x reach c) s j ts = shown_due t.number s (noting ts j)

  held_dated : (display limit : ℕ) (collar maker o : Option ℕ) → o ≡ Some due → DatedAs (standing_by due display limit collar maker) o
  held_dated display limit None None o e = tt
  held_dated display limit (Some c) None o e = cond_both (eqb display limit) Plain (Held c due) (λ x. DatedAs x o) (λ z. tt) (λ z. e)
  held_dated display limit collar (Some m) o e = tt

  module _ (d : Desk) (u : Distinct d.rows) (t : Ticket) (p : Pricing) (other : Lacks t.number d.rows) (h : Dated d.journal d.rows) where
    abbrev fill : Fill
    fill = take due (taker t (reach_of p)) t.size d.rows []

    abbrev traded : List Event
    traded = noting fill.trades (show_first t p d.journal)

    filled_dated : Dated traded fill.rows
    unfolding Dated
    filled_dated y i =
        take_dated (taker t (reach_of p)) d.rows t.size [] (show_first t p d.journal) u
        (λ w l o. subst (DatedAs w.standing) (sym (first_at t p d.journal w.number o)) (h w l))
        y i (λ z. other (face y) (take_in due (taker t (reach_of p)) d.rows t.size [] (face y) (has_in y fill.rows i)) z)

    rest_dated : (n : ℕ) → Dated (rest due t p fill n traded).journal (rest due t p fill n traded).rows
    unfolding rest Dated
    rest_dated zero y i = filled_dated y i
    rest_dated (suc n) y i =
        let s = restsAt p (last_price fill.trades) in
        let x = row_for due t p s (suc n) in
        let j = show_last t p s traded in
        ⊎_elim
        (λ e. subst (λ (w : Row). DatedAs w.standing (at w.number j)) (sym e) (held_dated s t.limit (collar_of p) t.maker (at t.number j) (last_due t p s d.journal fill.trades)))
        (λ e. subst (DatedAs y.standing) (sym (last_at t p s traded y.number (λ z. other (face y) (take_in due (taker t (reach_of p)) d.rows t.size [] (face y) (has_in y fill.rows e)) z))) (filled_dated y e))
        (has_insert x fill.rows y i)

    pub enter_dated : {more : ℕ} → Sane more (balanced due t p d).rows → Dated (enter due t p d).journal (enter due t p d).rows
    unfolding enter
    enter_dated sane = serve_dated t.series (balanced due t p d) sane (rest_dated fill.left)

  lapse_at : (i n : ℕ) (j : List Event) (x : ℕ) → at x (lapse i n j) ≡ at x j
  unfolding due_in
  lapse_at i zero j x = refl
  lapse_at i (suc n) j x = refl

  pub enter_now_dated : (d : Desk) → Distinct d.rows → (t : Ticket) → Lacks t.number d.rows → Dated d.journal d.rows → Dated (enter_now due t d).journal (enter_now due t d).rows
  unfolding Dated enter_now
  enter_now_dated d u t other h y i =
      let f = take due (taker t t.limit) t.size d.rows [] in
      subst (DatedAs y.standing) (sym (lapse_at t.number f.left (noting f.trades d.journal) y.number)) (filled_dated d u t (AtLimit t.limit) other h y i)
