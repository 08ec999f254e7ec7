-- A maker has one quote on a side of a series, so that no call withdraws more than 128 rows.
use Rattle.std.proofs.Common.{◌≡◌, ℕ, zero, suc, ◌+◌, ◌*◌, ◌<◌, ◌≤◌, Bool, true, false, cond, ◌&&◌, eqb, ltb, ◌⊎◌, List, [], ◌∷◌, length, Some, None, Option, sym, refl, ap, ◌∙◌, subst, inl, inr, ⊎_elim, arith, length-append}
use Rattle.std.proofs.lemmas.Bool.{ltb-true, lt-ltb, eqb-true, eq-eqb, and_parts, and_from, cases_eq}
use Rattle.values.specs.declared.side.Side.{Side}
use Rattle.values.specs.declared.side.Side.TheVariants.{Buy, Sell}
use Rattle.collars.specs.declared.pricing.Pricing.{Pricing}
use Rattle.collars.specs.Pricings.{reach_of, display_of as restsAt, collar_of}
use Rattle.book.specs.declared.row.Row.{Row}
use Rattle.book.specs.declared.row.Standing.{Standing}
use Rattle.book.specs.declared.row.Standing.TheVariants.{Plain, Held, Quote}
use Rattle.book.specs.Rows.{same_side, without, row_of, once_moved, moved_to}
use Rattle.book.specs.Taking.{Fill, take, Has}
use Rattle.trading.specs.declared.ticket.Ticket.{Ticket}
use Rattle.trading.specs.Journals.{Event, withdrawals_of, noting}
use Rattle.trading.specs.Desks.{Desk, withdrawn, pull, second_after, move_on, advance, taker, last_price, held_at, standing_by, row_for, show_first, rest, enter, lapse}
use Rattle.trading.proofs.Sides.{clash, decide, same_side_lem}
use Rattle.trading.proofs.Faces.{quote, role_of, Face, face, face_number, In, insert_in, without_in, take_in, has_in, Distinct}
use Rattle.trading.proofs.Resting.{Rested, onwards, moved_rows, serve_within, serve_rested, move_on_sane, move_on_others}
use Rattle.trading.proofs.Pulled.{count_less}
use Rattle.market.specs.Tests.{is_mine}
use Rattle.trading.specs.Doing.{count}
use Rattle.laws.proofs.Keeping.{pull_keeps, advance_keeps}

-- ---- counting rows

count_zero : (q : Row → Bool) (xs : List Row) → ((y : Row) → Has y xs → q y ≡ false) → count q xs ≡ 0
unfolding count
count_zero q [] h = refl
count_zero q (x ∷ xs) h = let z : cond {A = ℕ} (q x) 1 0 ≡ 0 = rw (h x (inl refl)) in omega (arith, count_zero q xs (λ y i. h y (inr i)))

pub count_one : (q : Row → Bool) (xs : List Row) → Distinct xs → ((x y : Row) → Has x xs → Has y xs → q x ≡ true → q y ≡ true → x.number ≡ y.number) → count q xs ≤ 1
unfolding count
count_one q [] u h = omega arith
count_one q (x ∷ xs) u h =
    decide (q x)
    (λ e.
    let z : cond {A = ℕ} (q x) 1 0 ≡ 1 = rw e in
    omega (arith, count_zero q xs (λ y i. decide (q y) (λ t. absurd (u.0 (face y) (has_in y xs i) (h y x (inr i) (inl refl) t e))) (λ t. t))))
    (λ e. let z : cond {A = ℕ} (q x) 1 0 ≡ 0 = rw e in omega (arith, count_one q xs u.1 (λ a b i l. h a b (inr i) (inr l))))

pub count_le : (p q : Row → Bool) (xs : List Row) → ((r : Row) → Has r xs → p r ≡ true → q r ≡ true) → count p xs ≤ count q xs
unfolding count
count_le p q [] h = omega arith
count_le p q (x ∷ xs) h =
    decide (p x)
    (λ e. let a : cond {A = ℕ} (p x) 1 0 ≡ 1 = rw e in let b : cond {A = ℕ} (q x) 1 0 ≡ 1 = rw (h x (inl refl) e) in omega (arith, count_le p q xs (λ r i. h r (inr i))))
    (λ e. let a : cond {A = ℕ} (p x) 1 0 ≡ 0 = rw e in omega (arith, count_le p q xs (λ r i. h r (inr i))))

count_split : (p a b c : Row → Bool) → ((r : Row) → p r ≡ true → (a r ≡ true) ⊎ ((b r ≡ true) ⊎ (c r ≡ true))) → (xs : List Row) → count p xs ≤ count a xs + count b xs + count c xs
unfolding count
count_split p a b c h [] = omega arith
count_split p a b c h (x ∷ xs) =
    decide (p x)
    (λ e.
    let z : cond {A = ℕ} (p x) 1 0 ≡ 1 = rw e in
    ⊎_elim
    (λ t. let y : cond {A = ℕ} (a x) 1 0 ≡ 1 = rw t in omega (arith, count_split p a b c h xs))
    (λ s. ⊎_elim
    (λ t. let y : cond {A = ℕ} (b x) 1 0 ≡ 1 = rw t in omega (arith, count_split p a b c h xs))
    (λ t. let y : cond {A = ℕ} (c x) 1 0 ≡ 1 = rw t in omega (arith, count_split p a b c h xs))
    s)
    (h x e))
    (λ e. let z : cond {A = ℕ} (p x) 1 0 ≡ 0 = rw e in omega (arith, count_split p a b c h xs))

-- ---- one quote for each maker, series and side

pub mine_quote : (k : ℕ) (x : Standing) → is_mine k x ≡ true → role_of x ≡ quote k
mine_quote k Plain e = absurd (clash false e refl)
mine_quote k (Held c d) e = absurd (clash false e refl)
mine_quote k (Quote i) e = ap quote (eqb-true i k e)

-- of the series numbered below `made`
pub record Single (made : ℕ) (xs : List Row) : Type 0 where
  pub one : (f g : Face) (k : ℕ) → In f xs → In g xs → f.role ≡ quote k → g.role ≡ quote k → f.series ≡ g.series → f.side ≡ g.side → f ≡ g
  pub listed : (f : Face) (k : ℕ) → In f xs → f.role ≡ quote k → f.series < made

abbrev on_series : ℕ → ℕ → Side → Row → Bool
on_series k s side r = is_mine k r.standing && (eqb r.series s && same_side r.side side)

below : ℕ → ℕ → Row → Bool
below k n r = is_mine k r.standing && ltb r.series n

below_step : (k n : ℕ) (r : Row) → below k (suc n) r ≡ true → (below k n r ≡ true) ⊎ ((on_series k n Buy r ≡ true) ⊎ (on_series k n Sell r ≡ true))
unfolding below
below_step k n r e =
    let a = and_parts (is_mine k r.standing) (ltb r.series (suc n)) e in
    let l = ltb-true r.series (suc n) a.1 in
    ⊎_elim
    (λ s. inr (side r.side refl a.0 (eq-eqb r.series n s)))
    (λ s. inl (and_from (is_mine k r.standing) (ltb r.series n) a.0 (lt-ltb r.series n (omega arith))))
    (cases_eq r.series n)
  where
    side : (x : Side) → r.side ≡ x → is_mine k r.standing ≡ true → eqb r.series n ≡ true → (on_series k n Buy r ≡ true) ⊎ (on_series k n Sell r ≡ true)
    side Buy z a b = inl (rw (a, b, z))
    side Sell z a b = inr (rw (a, b, z))

on_one : (made k s : ℕ) (side : Side) (xs : List Row) → Distinct xs → Single made xs → count (on_series k s side) xs ≤ 1
on_one made k s side xs u h = count_one (on_series k s side) xs u (λ x y i l a b.
    let p = parts x a in
    let q = parts y b in
    face_number (h.one (face x) (face y) k (has_in x xs i) (has_in y xs l) p.0 q.0 (p.1 ∙ sym q.1) (p.2 ∙ sym q.2)))
  where
    parts : (x : Row) → on_series k s side x ≡ true → (role_of x.standing ≡ quote k) × (x.series ≡ s) × (x.side ≡ side)
    parts x e =
        let a = and_parts (is_mine k x.standing) (eqb x.series s && same_side x.side side) e in
        let b = and_parts (eqb x.series s) (same_side x.side side) a.1 in
        (mine_quote k x.standing a.0, eqb-true x.series s b.0, same_side_lem x.side side b.1)

below_count : (made k : ℕ) (xs : List Row) → Distinct xs → Single made xs → (n : ℕ) → count (below k n) xs ≤ 2 * n
unfolding below
below_count made k xs u h zero = let z = count_zero (below k 0) xs (λ y i. decide (below k 0 y) (λ e. absurd (let l = ltb-true y.series 0 (and_parts (is_mine k y.standing) (ltb y.series 0) e).1 in omega arith)) (λ e. e)) in omega arith
below_count made k xs u h (suc n) = omega (arith, count_split (below k (suc n)) (below k n) (on_series k n Buy) (on_series k n Sell) (below_step k n) xs, below_count made k xs u h n, on_one made k n Buy xs u h, on_one made k n Sell xs u h)

-- a maker's quotes are at most two for each series
pub mine_count : (made k : ℕ) (xs : List Row) → Distinct xs → Single made xs → count (λ r. is_mine k r.standing) xs ≤ 2 * made
unfolding below
mine_count made k xs u h = omega (arith, below_count made k xs u h made, count_le (λ r. is_mine k r.standing) (below k made) xs (λ r i e. and_from (is_mine k r.standing) (ltb r.series made) e (lt-ltb r.series made (h.listed (face r) k (has_in r xs i) (mine_quote k r.standing e)))))

-- ---- quotes come by Q alone

abbrev pub FromQuotes : List Row → List Row → Type 0
FromQuotes xs ys = (f : Face) (k : ℕ) → In f xs → f.role ≡ quote k → In f ys

pub single_from : (made : ℕ) (xs ys : List Row) → FromQuotes xs ys → Single made ys → Single made xs
single_from made xs ys from h = record {
  one = λ f g k i l a b s o. h.one f g k (from f k i a) (from g k l b) a b s o;
  listed = λ f k i a. h.listed f k (from f k i a) a;
}

not_quote : (b : Bool) (c d k : ℕ) → role_of (cond b Plain (Held c d)) ≡ quote k → ⊥
not_quote true c d k e = let z : ◌≡◌ {A = ℕ} 0 1 = cc in omega arith
not_quote false c d k e = let z : ◌≡◌ {A = ℕ} 0 1 = cc in omega arith

moved_from : {top : ℕ} (d : Desk) → Rested top d.rows → (r : Row) (c m : ℕ) → row_of r.number d.rows ≡ Some r → r.standing ≡ Held c m → FromQuotes (move_on r c m d).rows d.rows
moved_from d ok r c m at how f k i e =
    let p = onwards r c in
    ⊎_elim
    (λ z. absurd (not_quote (eqb p r.limit) c (second_after m) k (sym (ap (λ (y : Standing). role_of (once_moved (eqb p r.limit) (second_after m) y)) how) ∙ sym (ap (λ (y : Face). y.role) z) ∙ e)))
    (λ l. (without_in r.number d.rows f l).0)
    (insert_in (moved_to p (second_after m) r) (without r.number d.rows) f (subst (In f) (moved_rows d ok r c m m at how) i))

pub advance_from : {top : ℕ} (k : ℕ) (d : Desk) → Rested top d.rows → FromQuotes (advance k d).rows d.rows
advance_from {top} k d ok =
    (advance_keeps (λ x. Rested top x.rows × FromQuotes x.rows d.rows) k (λ x p. p.0.0.distinct)
    (λ x r c m at how due p. (
      serve_rested (move_on r c m x) (second_after k) r.series (move_on_sane x p.0 r c m m at how) (move_on_others x p.0 r c m m at how),
      λ f q i e. p.1 f q (moved_from x p.0 r c m at how f q (serve_within (second_after k) r.series (move_on r c m x) f i) e) e,
    ))
    d (ok, λ f q i e. i)).1

-- where the balance of t displays
abbrev pub settles_at : ℕ → Ticket → Pricing → Desk → ℕ
settles_at due t p d = restsAt p (last_price (take due (taker t (reach_of p)) t.size d.rows []).trades)

-- a face of the rows after t entered is an old one or its own
pub enter_in : (due : ℕ) (t : Ticket) (p : Pricing) (d : Desk) (f : Face) → In f (enter due t p d).rows → (f ≡ face (row_for due t p (settles_at due t p d) 0)) ⊎ In f d.rows
unfolding enter rest
enter_in due t p d f i =
    let fill = take due (taker t (reach_of p)) t.size d.rows [] in
    at fill.left fill (noting fill.trades (show_first t p d.journal)) (λ g l. take_in due (taker t (reach_of p)) d.rows t.size [] g l) (serve_within due t.series _ f i)
  where
    at : (n : ℕ) (fill : Fill) (j : List Event) → ((g : Face) → In g fill.rows → In g d.rows) → In f (rest due t p fill n j).rows → (f ≡ face (row_for due t p (restsAt p (last_price fill.trades)) 0)) ⊎ In f d.rows
    at zero fill j h l = inr (h f l)
    at (suc n) fill j h l = ⊎_elim (λ e. inl e) (λ l. inr (h f l)) (insert_in (row_for due t p (restsAt p (last_price fill.trades)) (suc n)) fill.rows f l)

held_no_quote : (due p l : ℕ) (o : Option ℕ) (k : ℕ) → role_of (held_at due p l o) ≡ quote k → ⊥
held_no_quote due p l None k e = let z : ◌≡◌ {A = ℕ} 0 1 = cc in omega arith
held_no_quote due p l (Some c) k e = not_quote (eqb p l) c due k e

-- an order brings no quote
pub order_from : (due : ℕ) (t : Ticket) (p : Pricing) (d : Desk) → t.maker ≡ None → FromQuotes (enter due t p d).rows d.rows
order_from due t p d none f k i e =
    ⊎_elim
    (λ z. let at = settles_at due t p d in absurd (held_no_quote due at t.limit (collar_of p) k (sym (ap (λ (y : Option ℕ). role_of (standing_by due at t.limit (collar_of p) y)) none) ∙ sym (ap (λ (y : Face). y.role) z) ∙ e)))
    (λ l. l)
    (enter_in due t p d f i)

-- ---- how many withdrawals there are

pub withdrawn_length : (w : Row) (j : List Event) → length (withdrawals_of (withdrawn w ∷ j)) ≡ suc (length (withdrawals_of j))
withdrawn_length w j = length-append (withdrawals_of j) _ ∙ (omega arith)

pub pull_spare : (p : Row → Bool) (d : Desk) → length (withdrawals_of (pull p d).journal) ≤ length (withdrawals_of d.journal) + count p d.rows
pull_spare p d =
    let h = pull_keeps (λ x. length (withdrawals_of x.journal) + count p x.rows ≤ length (withdrawals_of d.journal) + count p d.rows) p
    (λ x r has z h. omega (arith, h, count_less p r x.rows has z, withdrawn_length r x.journal))
    d (omega arith) in
    omega arith

pub lapse_spare : (i n : ℕ) (j : List Event) → length (withdrawals_of (lapse i n j)) ≤ suc (length (withdrawals_of j))
lapse_spare i zero j = omega arith
lapse_spare i (suc n) j = omega (arith, length-append (withdrawals_of j) (record { number = i; left = suc n } ∷ []))
