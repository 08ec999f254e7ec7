-- What the history says of the rows throughout a call.
use Rattle.std.proofs.Common.{◌≡◌, ℕ, zero, suc, ◌+◌, ◌-◌, ◌<◌, ◌≤◌, Bool, true, false, eqb, ◌⊎◌, List, [], ◌∷◌, ◌++◌, Some, None, Option, sym, refl, ap, ◌∙◌, subst, inl, inr, ⊎_elim, arith}
use Rattle.std.proofs.lemmas.Bool.{eqb-true, ne_eqb, or_from}
use Rattle.values.specs.declared.side.Side.{Side}
use Rattle.values.specs.declared.side.Side.TheVariants.{Buy, Sell}
use Rattle.values.specs.Sides.{opposite, NoMoreAggressive, ahead, onward}
use Rattle.book.specs.declared.row.Row.{Row}
use Rattle.book.specs.declared.row.Standing.{Standing}
use Rattle.book.specs.declared.row.Standing.TheVariants.{Held}
use Rattle.book.specs.declared.row.Taker.{Taker}
use Rattle.book.specs.declared.row.Trade.{Trade}
use Rattle.book.specs.Rows.{insert, without, row_of, settle, once_moved, moved_to}
use Rattle.book.specs.Taking.{amount, note, Fill, take, Has}
use Rattle.book.specs.Trades.{trade_with}
use Rattle.trading.specs.Journals.{Event, Shown, Moved, Traded, Withdrawn, noting}
use Rattle.trading.specs.Desks.{Desk, taker_of, serve_row, serve, withdrawn, pull, second_after, move_on, advance}
use Rattle.trading.proofs.Sides.{no_more_trans, onward_limit, not_opposite}
use Rattle.trading.proofs.Faces.{Role, plain, held, quote, role_of, Face, face, face_side, In, insert_in, without_in, has_in, row_of_has, unique, take_has, take_left, take_distinct, reach_true, amount_reach}
use Rattle.trading.proofs.Resting.{Sane, Rested, served_in, serve_row_sane, serve_rested, onwards, moved_rows, move_on_sane, move_on_others, without_sane, without_holding}
use Rattle.laws.specs.Admissions.{Party}
use Rattle.laws.specs.Displays.{display_of, traded_of, withdrawn_of, is_named}
use Rattle.laws.specs.Collars.{Collar}
use Rattle.laws.specs.Protection.{WithinCollar}
use Rattle.laws.specs.Deals.{Dealt}
use Rattle.laws.specs.Moves.{MovesOn, GivenTo}
use Rattle.laws.proofs.Keeping.{serve_keeps, pull_keeps, advance_keeps}
use Rattle.laws.proofs.Words.{moved_self, moved_other, noted_shown, noted_named, noted_withdrawn, Unheard}
use Rattle.laws.proofs.Sizes.{size_in, size_lacks, has_size, cond_sum, insert_size, without_all, settle_size, Foreign, take_sizes}

-- within a reach of c cents onward is at most c cents more aggressive
pub onward_near : (s : Side) (p c l q : ℕ) → NoMoreAggressive s q (onward s p c l) → NoMoreAggressive s q (ahead s p c)
onward_near Buy p c l q h = omega arith
onward_near Sell p c l q h = omega arith

near_self : (s : Side) (p c : ℕ) → NoMoreAggressive s p (ahead s p c)
near_self Buy p c = omega arith
near_self Sell p c = omega arith

abbrev pub maker_of : Role → Option ℕ
maker_of plain = None
maker_of (held c) = None
maker_of (quote k) = Some k

-- the admitted size; nothing of who was not admitted
abbrev pub size_of : Option Party → ℕ
size_of None = 0
size_of (Some x) = x.size

-- what the history says as a call is made
pub record Ledger : Type 1 where
  -- what befell the rows before the call
  pub past : List Event
  -- the screen of a number passes a price
  pub cleared : ℕ → ℕ → Type 0
  pub collar : ℕ → Option Collar
  pub party : ℕ → Option Party
  -- a maker may quote in a series
  pub welcome : ℕ → ℕ → Type 0

module _ (L : Ledger) where
  -- the number n is a party of the side on the series
  abbrev pub Known : ℕ → ℕ → Side → Type 0
  Known n s side = (x : Party) × (L.party n ≡ Some x) × (x.series ≡ s) × (x.side ≡ side)

  -- what an event owes to the events before it
  abbrev pub Fair : Event → List Event → Type 0
  Fair (Shown i p) j = L.cleared i p × (display_of i j ≡ None) × GivenTo (L.collar i) (L.party i) i p j
  Fair (Moved i p) j = L.cleared i p × MovesOn (L.collar i) i p j
  Fair (Traded t) j =
      (L.cleared t.taker t.price × L.cleared t.resting t.price)
      × (WithinCollar (L.collar t.taker) t.taker t.price j × WithinCollar (L.collar t.resting) t.resting t.price j)
      × Dealt (L.party t.taker) (L.party t.resting) t j
  Fair (Withdrawn w) j = Unit {0}

  unfoldable pub AllFair : List Event → Type 0
  AllFair [] = Unit {0}
  AllFair (e ∷ j) = Fair e j × AllFair j

  abbrev pub HasCollar : ℕ → Face → Type 0
  HasCollar c f = (y : ℕ × ℕ) × (L.collar f.number ≡ Some (record { side = f.side; limit = f.limit; width = c; own = y.0; contra = y.1 }))

  -- an order that is not held has no collar or has come to its limit
  abbrev pub Collared : Role → Face → Type 0
  Collared plain f = (L.collar f.number ≡ None) ⊎ ((f.display ≡ f.limit) × ((c : ℕ) × HasCollar c f))
  Collared (held c) f = HasCollar c f
  Collared (quote k) f = Unit {0}

  abbrev pub Welcome : Role → Face → Type 0
  Welcome plain f = Unit {0}
  Welcome (held c) f = Unit {0}
  Welcome (quote k) f = L.welcome k f.series

  -- what is known of a row by its admission
  pub record Facts (f : Face) : Type 0 where
    pub clears : (p : ℕ) → NoMoreAggressive f.side p f.limit → L.cleared f.number p
    pub collared : Collared f.role f
    pub brought : (z : ℕ) × (L.party f.number ≡ Some (record { series = f.series; side = f.side; limit = f.limit; size = z; maker = maker_of f.role }))
    pub welcomes : Welcome f.role f

  pub known : (f : Face) → Facts f → Known f.number f.series f.side
  known f h = (record { series = f.series; side = f.side; limit = f.limit; size = h.brought.0; maker = maker_of f.role }, h.brought.1, refl, refl)

  -- the journal so far, after all before it
  abbrev pub whole : Desk → List Event
  whole d = d.journal ++ L.past

  pub record Told (top : ℕ) (d : Desk) : Type 0 where
    pub limits : (f : Face) → In f d.rows → NoMoreAggressive f.side f.display f.limit
    pub facts : (f : Face) → In f d.rows → Facts f
    pub shown : (f : Face) → In f d.rows → display_of f.number (whole d) ≡ Some f.display
    pub kept : (f : Face) → In f d.rows → is_named f.number (whole d) ≡ false
    pub fair : AllFair (whole d)
    pub quiet : (n : ℕ) → top < n → Unheard n (whole d)
    pub weighs : (n : ℕ) → n ≤ top → traded_of n (whole d) + withdrawn_of n (whole d) + size_in n d.rows ≡ size_of (L.party n)

  -- throughout a call
  abbrev pub Sound : ℕ → Desk → Type 0
  Sound top d = Sane top d.rows × Told top d

  -- between calls
  abbrev pub Settled : ℕ → Desk → Type 0
  Settled top d = Rested top d.rows × Told top d

  -- ---- a taker's trades

  note_fair : (q : ℕ) (e : Trade) (j : List Trade) (J : List Event) → (0 < q → Fair (Traded e) (noting j J ++ L.past)) → AllFair (noting j J ++ L.past) → AllFair (noting (note q e j) J ++ L.past)
  unfolding AllFair
  note_fair zero e j J h a = a
  note_fair (suc q) e j J h a = (h (omega arith), a)

  -- where the display price is the price itself
  within_self : (c : Option Collar) (n p : ℕ) (j : List Event) → display_of n j ≡ Some p → WithinCollar c n p j
  within_self None n p j e = tt
  within_self (Some c) n p j e = rw e (near_self c.side p c.width)

  within_same : (c : Option Collar) (n p : ℕ) (j j' : List Event) → display_of n j' ≡ display_of n j → WithinCollar c n p j → WithinCollar c n p j'
  within_same None n p j j' e w = tt
  within_same (Some c) n p j j' e w = rw e w

  pub take_fair : (due : ℕ) (t : Taker) (rs : List Row) (n : ℕ) (j : List Trade) (J : List Event) → ((f : Face) → In f rs → L.cleared f.number f.display × (display_of f.number (J ++ L.past) ≡ Some f.display) × Known f.number f.series f.side) → Known t.number t.series t.side → ((p : ℕ) → NoMoreAggressive t.side p t.reach → L.cleared t.number p × WithinCollar (L.collar t.number) t.number p (J ++ L.past)) → AllFair (noting j J ++ L.past) → AllFair (noting (take due t n rs j).trades J ++ L.past)
  unfolding take
  take_fair due t [] n j J rows me own a = a
  take_fair due t (r ∷ rs) n j J rows me own a =
      let q = amount t n r in
      let here = rows (face r) (inl refl) in
      let at = noting j J ++ L.past in
      take_fair due t rs (n - q) (note q (trade_with t q r) j) J (λ f i. rows f (inr i)) me own
      (note_fair q (trade_with t q r) j J
      (λ h.
      let reached = reach_true t r (amount_reach t n r h) in
      let o = own r.display reached.2 in
      let shown : display_of r.number at ≡ Some r.display = noted_shown L.past j J r.number ∙ here.1 in (
        (o.0, here.0),
        (within_same (L.collar t.number) t.number r.display (J ++ L.past) at (noted_shown L.past j J t.number) o.1, within_self (L.collar r.number) r.number r.display at shown),
        record {
          taking = me.0;
          taker = me.1;
          standing = here.2.0;
          resting = here.2.1;
          series = me.2 ∙ sym reached.0;
          other = here.2.2;
          sides = here.2.3 ∙ reached.1 ∙ ap opposite (sym me.3);
          price = shown;
          sized = h;
        },
      ))
      a)

  -- ---- a held order is served

  held_within : (r : Row) (c p : ℕ) (j : List Event) → Collared (held c) (face r) → display_of r.number j ≡ Some r.display → NoMoreAggressive r.side p (taker_of r c).reach → WithinCollar (L.collar r.number) r.number p j
  held_within r c p j h e n = rw (h.1, e) (onward_near r.side r.display c r.limit p n)

  held_collar : (f : Face) (c : ℕ) → f.role ≡ held c → Facts f → Collared (held c) f
  held_collar f c how h = subst (λ (y : Role). Collared y f) how h.collared

  -- no row has a number beyond the top
  pub beyond_size : {top : ℕ} (d : Desk) → Sane top d.rows → (n : ℕ) → top < n → size_in n d.rows ≡ 0
  beyond_size d ok n h = size_lacks n d.rows (λ f i z. let b = ok.numbered f i in omega arith)

  module _ {top : ℕ} (d : Desk) (ok : Sound top d) (due : ℕ) (r : Row) (c m : ℕ) (has : Has r d.rows) (how : r.standing ≡ Held c m) where
    abbrev out : Fill
    out = take due (taker_of r c) r.size d.rows []

    served_fair : AllFair (noting out.trades d.journal ++ L.past)
    served_fair =
        let i = has_in r d.rows has in
        let t = ok.1 in
        take_fair due (taker_of r c) d.rows r.size [] d.journal
        (λ f h. ((t.facts f h).clears f.display (t.limits f h), t.shown f h, known f (t.facts f h)))
        (known (face r) (t.facts (face r) i))
        (λ q n. (
          (t.facts (face r) i).clears q (no_more_trans r.side q _ r.limit n (onward_limit r.side r.display c r.limit)),
          held_within r c q (whole d) (held_collar (face r) c (ap role_of how) (t.facts (face r) i)) (t.shown (face r) i) n,
        ))
        t.fair

    served_sizes : (i : ℕ) → traded_of i (noting out.trades d.journal ++ L.past) + size_in i (settle due (r.size - out.left) r.number out.rows) ≡ traded_of i (whole d) + size_in i d.rows
    served_sizes i =
        let t = taker_of r c in
        let foreign : Foreign t d.rows = λ f l o z. not_opposite r.side (sym (face_side (unique d.rows ok.0.distinct f (face r) l (has_in r d.rows has) z)) ∙ o) in
        let u = take_distinct due t d.rows r.size [] ok.0.distinct in
        let own : size_in r.number out.rows ≡ r.size = has_size r out.rows u (take_has due t d.rows r.size [] r (not_opposite r.side) has) in
        let left : out.left ≤ r.size = take_left due t d.rows r.size [] in
        let a = take_sizes L.past due t d.rows r.size [] d.journal foreign i in
        let b = settle_size due (r.size - out.left) r.number out.rows i u (omega arith) in
        let x = cond_sum (eqb r.number i) (r.size - out.left) out.left r.size (omega arith) in
        omega arith

    pub serve_row_sound : Sound top (serve_row due r c d)
    unfolding serve_row
    serve_row_sound =
        let t = ok.1 in
        let old = served_in d ok.0 due r c m has how in
        let ts = out.trades in (
          serve_row_sane d ok.0 due r c m has how,
          record {
            limits = λ f h. t.limits f (old f h);
            facts = λ f h. t.facts f (old f h);
            shown = λ f h. noted_shown L.past ts d.journal f.number ∙ t.shown f (old f h);
            kept = λ f h. noted_named L.past ts d.journal f.number ∙ t.kept f (old f h);
            fair = served_fair;
            quiet = λ n h.
                let q = t.quiet n h in
                record {
                  hidden = noted_shown L.past ts d.journal n ∙ q.hidden;
                  unnamed = noted_named L.past ts d.journal n ∙ q.unnamed;
                  untraded = let z = served_sizes n in let y = q.untraded in let x = beyond_size d ok.0 n h in omega arith;
                };
            weighs = λ n h. omega (arith, served_sizes n, noted_withdrawn L.past ts d.journal n, t.weighs n h);
          },
        )

  pub serve_sound : {top : ℕ} (due s : ℕ) (d : Desk) → Sound top d → Sound top (serve due s d)
  serve_sound {top} due s d ok = serve_keeps (Sound top) due s (λ d r c m has how p. serve_row_sound d p due r c m has how) d ok

  -- ---- a row comes into the book

  -- some of the rows, and x among them, once the journal has come to j
  pub placed_told : {top : ℕ} (d : Desk) → Told top d → (xs : List Row) → ((f : Face) → In f xs → In f d.rows) → (x : Row) (j : List Event) → ((f : Face) → In f xs → f.number ≡ x.number → ⊥) → NoMoreAggressive x.side x.display x.limit → Facts (face x) → display_of x.number (j ++ L.past) ≡ Some x.display → is_named x.number (j ++ L.past) ≡ false → ((n : ℕ) → (n ≡ x.number → ⊥) → display_of n (j ++ L.past) ≡ display_of n (whole d)) → ((n : ℕ) → (n ≡ x.number → ⊥) → is_named n (j ++ L.past) ≡ is_named n (whole d)) → (more : ℕ) → AllFair (j ++ L.past) → ((n : ℕ) → more < n → Unheard n (j ++ L.past)) → ((n : ℕ) → n ≤ more → traded_of n (j ++ L.past) + withdrawn_of n (j ++ L.past) + size_in n (insert x xs) ≡ size_of (L.party n)) → Told more (record { rows = insert x xs; journal = j })
  placed_told d t xs old x j other limit facts here unnamed there named more fair quiet weighs = record {
    limits = λ f i. ⊎_elim (λ e. subst (λ (y : Face). NoMoreAggressive y.side y.display y.limit) (sym e) limit) (λ e. t.limits f (old f e)) (insert_in x xs f i);
    facts = λ f i. ⊎_elim (λ e. subst Facts (sym e) facts) (λ e. t.facts f (old f e)) (insert_in x xs f i);
    shown = λ f i. ⊎_elim (λ e. subst (λ (y : Face). display_of y.number (j ++ L.past) ≡ Some y.display) (sym e) here) (λ e. there f.number (other f e) ∙ t.shown f (old f e)) (insert_in x xs f i);
    kept = λ f i. ⊎_elim (λ e. subst (λ (y : Face). is_named y.number (j ++ L.past) ≡ false) (sym e) unnamed) (λ e. named f.number (other f e) ∙ t.kept f (old f e)) (insert_in x xs f i);
    fair = fair;
    quiet = quiet;
    weighs = weighs;
  }

  -- ---- a held order moves

  moved_facts : (r : Row) (c m p due : ℕ) → r.standing ≡ Held c m → Facts (face r) → Facts (face (moved_to p due r))
  moved_facts r c m p due how h = by (eqb p r.limit) refl (once_moved (eqb p r.limit) due r.standing) (ap (once_moved (eqb p r.limit) due) how)
    where
      was : (z : ℕ) × (L.party r.number ≡ Some (record { series = r.series; side = r.side; limit = r.limit; size = z; maker = None }))
      was = subst (λ (y : Role). (z : ℕ) × (L.party r.number ≡ Some (record { series = r.series; side = r.side; limit = r.limit; size = z; maker = maker_of y }))) (ap role_of how) h.brought

      by : (b : Bool) → eqb p r.limit ≡ b → (x : Standing) → x ≡ once_moved b due (Held c m) → Facts (record { number = r.number; series = r.series; side = r.side; display = p; limit = r.limit; role = role_of x })
      by true q x e = rw e (record { clears = h.clears; collared = inr (eqb-true p r.limit q, (c, held_collar (face r) c (ap role_of how) h)); brought = was; welcomes = tt })
      by false q x e = rw e (record { clears = h.clears; collared = held_collar (face r) c (ap role_of how) h; brought = was; welcomes = tt })

  module _ {top : ℕ} (d : Desk) (ok : Settled top d) (r : Row) (c m : ℕ) (at : row_of r.number d.rows ≡ Some r) (how : r.standing ≡ Held c m) where
    moved_by : Collared (held c) (face r) → MovesOn (L.collar r.number) r.number (onwards r c) (whole d)
    moved_by h = rw h.1 (r.display, ok.1.shown (face r) (has_in r d.rows (row_of_has r.number d.rows r at)), refl)

    pub move_on_told : Told top (move_on r c m d)
    unfolding move_on AllFair traded_of withdrawn_of is_named
    move_on_told =
        let t = ok.1 in
        let has = row_of_has r.number d.rows r at in
        let i = has_in r d.rows has in
        let to = onwards r c in
        let x = moved_to to (second_after m) r in
        let j = Moved r.number to ∷ d.journal in
        let within = onward_limit r.side r.display c r.limit in
        let facts = t.facts (face r) i in
        let xs = without r.number d.rows in
        subst (λ (y : List Row). Told top (record { rows = y; journal = j })) (sym (moved_rows d ok.0 r c m m at how))
        (placed_told d t xs (λ f h. (without_in r.number d.rows f h).0) x j
        (λ f h. (without_in r.number d.rows f h).1)
        within
        (moved_facts r c m to (second_after m) how facts)
        (moved_self r.number to (whole d))
        (t.kept (face r) i)
        (λ n h. moved_other n r.number to (whole d) h)
        (λ n h. refl)
        top
        ((facts.clears to within, moved_by (held_collar (face r) c (ap role_of how) facts)), t.fair)
        (λ n h.
        let q = t.quiet n h in
        let b = ok.0.0.numbered (face r) i in
        record { hidden = moved_other n r.number to (whole d) (λ z. omega arith) ∙ q.hidden; unnamed = q.unnamed; untraded = q.untraded })
        (λ n h. omega (arith, t.weighs n h, insert_size x xs n, without_all r d.rows n ok.0.0.distinct has)))

    pub moved_settled : (k : ℕ) → Settled top (serve (second_after k) r.series (move_on r c m d))
    moved_settled k =
        let sane = move_on_sane d ok.0 r c m m at how in
        (serve_rested (move_on r c m d) (second_after k) r.series sane (move_on_others d ok.0 r c m m at how), (serve_sound (second_after k) r.series (move_on r c m d) (sane, move_on_told)).1)

  pub advance_settled : {top : ℕ} (k : ℕ) (d : Desk) → Settled top d → Settled top (advance k d)
  advance_settled {top} k d ok = advance_keeps (Settled top) k (λ d p. p.0.0.distinct) (λ d r c m at how due p. moved_settled d p r c m at how k) d ok

  -- ---- rows are withdrawn

  withdrawn_settled : {top : ℕ} (d : Desk) (r : Row) → Has r d.rows → Settled top d → Settled top (record { rows = without r.number d.rows; journal = withdrawn r ∷ d.journal })
  unfolding AllFair display_of traded_of withdrawn_of is_named
  withdrawn_settled d r has ok =
      let t = ok.1 in
      let old : (f : Face) → In f (without r.number d.rows) → In f d.rows = λ f h. (without_in r.number d.rows f h).0 in (
        (without_sane r.number ok.0.0, without_holding d.rows r.number ok.0.1),
        record {
          limits = λ f i. t.limits f (old f i);
          facts = λ f i. t.facts f (old f i);
          shown = λ f i. t.shown f (old f i);
          kept = λ f i. or_from (eqb r.number f.number) (is_named f.number (whole d)) (ne_eqb r.number f.number (λ z. (without_in r.number d.rows f i).1 (sym z))) (t.kept f (old f i));
          fair = (tt, t.fair);
          quiet = λ n h.
              let q = t.quiet n h in
              let b = ok.0.0.numbered (face r) (has_in r d.rows has) in
              record { hidden = q.hidden; unnamed = or_from (eqb r.number n) (is_named n (whole d)) (ne_eqb r.number n (λ z. omega arith)) q.unnamed; untraded = q.untraded };
          weighs = λ n h. omega (arith, t.weighs n h, without_all r d.rows n ok.0.0.distinct has);
        },
      )

  pub pull_settled : {top : ℕ} (p : Row → Bool) (d : Desk) → Settled top d → Settled top (pull p d)
  pull_settled {top} p d ok = pull_keeps (Settled top) p (λ d r has z q. withdrawn_settled d r has q) d ok
