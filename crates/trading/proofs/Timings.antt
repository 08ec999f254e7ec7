-- When held orders are due, and the bound of the clock's loop: no order moves twice while the clock moves on by a second at most.
use Rattle.std.proofs.Common.{◌≡◌, ℕ, zero, suc, ◌+◌, ◌-◌, ◌<◌, ◌≤◌, Bool, true, false, cond, eqb, ltb, leb, List, [], ◌∷◌, length, Some, None, Option, sym, refl, ap, ◌∙◌, subst, inl, inr, ⊎_elim, arith}
use Rattle.std.proofs.lemmas.Bool.{leb-true, leb-false, lt-leb, ltb-true, ltb-false, eqb-true, eq-eqb, and_parts, or_cases, or_parts, cond_both}
use Rattle.book.specs.declared.row.Row.{Row}
use Rattle.book.specs.declared.row.Standing.{Standing}
use Rattle.book.specs.declared.row.Standing.TheVariants.{Plain, Held, Quote}
use Rattle.book.specs.declared.row.Due.{Due}
use Rattle.book.specs.declared.row.Taker.{Taker}
use Rattle.book.specs.declared.row.Trade.{Trade}
use Rattle.book.specs.Lists.{placed, lacking}
use Rattle.book.specs.Rows.{precedes, numbered, insert, without, row_of, renewed, resized, put, cut, settle, once_moved, moved_to}
use Rattle.book.specs.Dues.{due_at, sooner, soonest, earliest}
use Rattle.book.specs.Trades.{trade_with}
use Rattle.book.specs.Taking.{amount, note, take, Has}
use Rattle.trading.specs.Desks.{Desk, taker_of, serve_row, serve, second_after, move_on, move_standing, move_found, turn_found, turn, turns}
use Rattle.trading.proofs.Sides.{decide}
use Rattle.trading.proofs.Faces.{face, has_in, row_of_has, row_of_some, row_of_none, Distinct}
use Rattle.trading.proofs.Resting.{Rested, onwards, moved_rows, turn_rested}
use Rattle.trading.proofs.Steps.{serve_keeps}

-- ---- how many rows are due at a moment

abbrev due_by : ℕ → Standing → Bool
due_by k Plain = false
due_by k (Held c d) = leb d k
due_by k (Quote m) = false

abbrev due_one : ℕ → Row → ℕ
due_one k r = cond (due_by k r.standing) 1 0

abbrev pub due_count : ℕ → List Row → ℕ
due_count k [] = 0
due_count k (r ∷ rs) = due_one k r + due_count k rs

one_le : (b : Bool) → cond {A = ℕ} b 1 0 ≤ 1
one_le true = omega arith
one_le false = omega arith

pub due_length : (k : ℕ) (xs : List Row) → due_count k xs ≤ length xs
due_length k [] = omega arith
due_length k (x ∷ xs) = omega (arith, one_le (due_by k x.standing), due_length k xs)

-- the moment at which an order that trades falls due lies after k
module _ (due k : ℕ) (after : k < due) where
  renewed_due : (x : Standing) → due_by k (renewed due x) ≡ false
  renewed_due Plain = refl
  renewed_due (Held c d) = lt-leb due k after
  renewed_due (Quote m) = refl

  put_due : (n : ℕ) (r : Row) (xs : List Row) → due_count k (put due n r xs) ≤ due_count k xs
  put_due zero r xs = omega arith
  put_due (suc n) r xs = let z : due_one k (resized due (suc n) r) ≡ 0 = rw (renewed_due r.standing) in omega arith

  cut_due : (q : ℕ) (r : Row) (xs : List Row) → due_count k (cut due q r xs) ≤ due_count k (r ∷ xs)
  cut_due zero r xs = omega arith
  cut_due (suc q) r xs = omega (arith, put_due (r.size - suc q) r xs)

  pub take_due : (t : Taker) (rs : List Row) (n : ℕ) (j : List Trade) → due_count k (take due t n rs j).rows ≤ due_count k rs
  unfolding take
  take_due t [] n j = omega arith
  take_due t (r ∷ rs) n j =
      let q = amount t n r in
      let j' = note q (trade_with t q r) j in
      omega (arith, cut_due q r (take due t (n - q) rs j').rows, take_due t rs (n - q) j')

  settle_due : (q n : ℕ) (xs : List Row) → due_count k (settle due q n xs) ≤ due_count k xs
  unfolding settle
  settle_due q n [] = omega arith
  settle_due q n (x ∷ xs) =
      cond_both (numbered n x) (cut due q x xs) (x ∷ settle due q n xs) (λ l. due_count k l ≤ due_count k (x ∷ xs))
      (λ e. omega (arith, cut_due q x xs))
      (λ e. omega (arith, settle_due q n xs))

insert_due : (k : ℕ) (x : Row) (xs : List Row) → due_count k (insert x xs) ≡ due_one k x + due_count k xs
unfolding placed
insert_due k x [] = refl
insert_due k x (y ∷ ys) =
    cond_both (precedes x y) (x ∷ (y ∷ ys)) (y ∷ insert x ys) (λ l. due_count k l ≡ due_one k x + due_count k (y ∷ ys))
    (λ e. refl) (λ e. omega (arith, insert_due k x ys))

without_le : (k n : ℕ) (xs : List Row) → due_count k (without n xs) ≤ due_count k xs
unfolding lacking
without_le k n [] = omega arith
without_le k n (x ∷ xs) =
    cond_both (numbered n x) (without n xs) (x ∷ without n xs) (λ l. due_count k l ≤ due_count k (x ∷ xs))
    (λ e. omega (arith, without_le k n xs)) (λ e. omega (arith, without_le k n xs))

without_due : (k : ℕ) (r : Row) (xs : List Row) → Has r xs → due_count k (without r.number xs) + due_one k r ≤ due_count k xs
unfolding lacking
without_due k r [] h = absurd h
without_due k r (x ∷ xs) (inl e) =
    let same : due_one k r ≡ due_one k x = ap (due_one k) e in
    let n : numbered r.number x ≡ true = eq-eqb x.number r.number (ap (λ (y : Row). y.number) (sym e)) in
    rw n (omega (arith, without_le k r.number xs))
without_due k r (x ∷ xs) (inr h) =
    cond_both (numbered r.number x) (without r.number xs) (x ∷ without r.number xs) (λ l. due_count k l + due_one k r ≤ due_count k (x ∷ xs))
    (λ e. omega (arith, without_due k r xs h)) (λ e. omega (arith, without_due k r xs h))

-- ---- the order that is due first

pub record First (xs : List Row) (e : Due) : Type 0 where
  pub row : Row
  pub there : Has row xs
  pub collar : ℕ
  pub how : row.standing ≡ Held collar e.moment
  pub named : row.number ≡ e.number

first_more : (x : Row) (xs : List Row) (e : Due) → First xs e → First (x ∷ xs) e
first_more x xs e f = record { row = f.row; there = inr f.there; collar = f.collar; how = f.how; named = f.named }

here_first : (x : Row) (xs : List Row) (e : Due) (c d : ℕ) → x.standing ≡ Held c d → due_at d x.number ≡ e → First (x ∷ xs) e
here_first x xs e c d h s = record { row = x; there = inl refl; collar = c; how = h ∙ ap (λ (y : Due). Held c y.moment) s; named = ap (λ (y : Due). y.number) s }

soonest_some : (x : Row) (xs : List Row) (e : Due) (s : Standing) → x.standing ≡ s → (o : Option Due) → ((q : Due) → o ≡ Some q → First xs q) → soonest s x.number o ≡ Some e → First (x ∷ xs) e
soonest_some x xs e Plain h o below w = first_more x xs e (below e w)
soonest_some x xs e (Held c d) h None below w = here_first x xs e c d h (cc)
soonest_some x xs e (Held c d) h (Some q) below w =
    let z : cond (sooner (due_at d x.number) q) (due_at d x.number) q ≡ e = cc in
    decide (sooner (due_at d x.number) q)
    (λ t. here_first x xs e c d h (rw t at z))
    (λ t. let y : q ≡ e = rw t at z in first_more x xs e (below e (ap Some y)))
soonest_some x xs e (Quote m) h o below w = first_more x xs e (below e w)

pub earliest_some : (xs : List Row) (e : Due) → earliest xs ≡ Some e → First xs e
unfolding earliest
earliest_some [] e w = cc
earliest_some (x ∷ xs) e w = soonest_some x xs e x.standing refl (earliest xs) (λ q g. earliest_some xs q g) w

soonest_none : (k : ℕ) (x : Row) (xs : List Row) (s : Standing) → x.standing ≡ s → (o : Option Due) → (o ≡ None → due_count k xs ≡ 0) → soonest s x.number o ≡ None → due_count k (x ∷ xs) ≡ 0
soonest_none k x xs Plain h o below w = let z : due_one k x ≡ 0 = rw h in omega (arith, below w)
soonest_none k x xs (Held c d) h None below w = cc
soonest_none k x xs (Held c d) h (Some q) below w = cc
soonest_none k x xs (Quote m) h o below w = let z : due_one k x ≡ 0 = rw h in omega (arith, below w)

-- where nobody is held nobody is due
pub nobody_due : (k : ℕ) (xs : List Row) → earliest xs ≡ None → due_count k xs ≡ 0
unfolding earliest
nobody_due k [] g = refl
nobody_due k (x ∷ xs) g = soonest_none k x xs x.standing refl (earliest xs) (λ e. nobody_due k xs e) g

later_of : (d n : ℕ) (q : Due) (k : ℕ) → k < (cond (sooner (due_at d n) q) (due_at d n) q).moment → (k < d) × (k < q.moment)
later_of d n q k h =
    decide (sooner (due_at d n) q)
    (λ t. let a : k < d = rw t at h in
    ⊎_elim
    (λ l. let b = ltb-true d q.moment l in (a, omega arith))
    (λ l. let b = eqb-true d q.moment (and_parts (eqb d q.moment) (ltb n q.number) l).0 in (a, omega arith))
    (or_cases (ltb d q.moment) _ t))
    (λ t. let a : k < q.moment = rw t at h in
    let b = ltb-false d q.moment (or_parts (ltb d q.moment) _ t).0 in
    (omega arith, a))

soonest_later : (k : ℕ) (x : Row) (xs : List Row) (e : Due) (s : Standing) → x.standing ≡ s → (o : Option Due) → (o ≡ None → due_count k xs ≡ 0) → ((q : Due) → o ≡ Some q → k < q.moment → due_count k xs ≡ 0) → soonest s x.number o ≡ Some e → k < e.moment → due_count k (x ∷ xs) ≡ 0
soonest_later k x xs e Plain h o none below w l = let z : due_one k x ≡ 0 = rw h in omega (arith, below e w l)
soonest_later k x xs e (Held c d) h None none below w l =
    let s : due_at d x.number ≡ e = cc in
    let m : d ≡ e.moment = ap (λ (y : Due). y.moment) s in
    let z : due_one k x ≡ 0 = rw (h, lt-leb d k (omega arith)) in
    omega (arith, none refl)
soonest_later k x xs e (Held c d) h (Some q) none below w l =
    let s : cond (sooner (due_at d x.number) q) (due_at d x.number) q ≡ e = cc in
    let both = later_of d x.number q k (subst (λ (y : Due). k < y.moment) (sym s) l) in
    let z : due_one k x ≡ 0 = rw (h, lt-leb d k both.0) in
    omega (arith, below q refl both.1)
soonest_later k x xs e (Quote m) h o none below w l = let z : due_one k x ≡ 0 = rw h in omega (arith, below e w l)

-- where the first is not due, nobody is
pub first_later : (k : ℕ) (xs : List Row) (e : Due) → earliest xs ≡ Some e → k < e.moment → due_count k xs ≡ 0
unfolding earliest
first_later k [] e w l = refl
first_later k (x ∷ xs) e w l = soonest_later k x xs e x.standing refl (earliest xs) (λ g. nobody_due k xs g) (λ q g. first_later k xs q g) w l

-- ---- when held orders are due

-- a held order's moment is after low and not after high
abbrev pub DueIn : ℕ → ℕ → Standing → Type 0
DueIn low high Plain = Unit {0}
DueIn low high (Held c d) = (low < d) × (d ≤ high)
DueIn low high (Quote m) = Unit {0}

abbrev pub Timed : ℕ → ℕ → List Row → Type 0
Timed low high [] = Unit {0}
Timed low high (r ∷ rs) = DueIn low high r.standing × Timed low high rs

module _ (low high : ℕ) where
  pub has_timed : (r : Row) (xs : List Row) → Has r xs → Timed low high xs → DueIn low high r.standing
  has_timed r [] h t = absurd h
  has_timed r (x ∷ xs) (inl e) t = subst (λ (y : Row). DueIn low high y.standing) (sym e) t.0
  has_timed r (x ∷ xs) (inr h) t = has_timed r xs h t.1

  pub insert_timed : (x : Row) (xs : List Row) → DueIn low high x.standing → Timed low high xs → Timed low high (insert x xs)
  unfolding placed
  insert_timed x [] h t = (h, tt)
  insert_timed x (y ∷ ys) h t = cond_both (precedes x y) (x ∷ (y ∷ ys)) (y ∷ insert x ys) (Timed low high) (λ e. (h, t)) (λ e. (t.0, insert_timed x ys h t.1))

  pub without_timed : (n : ℕ) (xs : List Row) → Timed low high xs → Timed low high (without n xs)
  unfolding lacking
  without_timed n [] t = tt
  without_timed n (x ∷ xs) t = cond_both (numbered n x) (without n xs) (x ∷ without n xs) (Timed low high) (λ e. without_timed n xs t.1) (λ e. (t.0, without_timed n xs t.1))

  module _ (due : ℕ) (after : low < due) (within : due ≤ high) where
    renewed_timed : (x : Standing) → DueIn low high x → DueIn low high (renewed due x)
    renewed_timed Plain h = tt
    renewed_timed (Held c d) h = (after, within)
    renewed_timed (Quote m) h = tt

    cut_timed : (q : ℕ) (r : Row) (xs : List Row) → DueIn low high r.standing → Timed low high xs → Timed low high (cut due q r xs)
    cut_timed zero r xs h t = (h, t)
    cut_timed (suc q) r xs h t = put_timed (r.size - suc q)
      where
        put_timed : (n : ℕ) → Timed low high (put due n r xs)
        put_timed zero = t
        put_timed (suc n) = (renewed_timed r.standing h, t)

    pub take_timed : (t : Taker) (rs : List Row) (n : ℕ) (j : List Trade) → Timed low high rs → Timed low high (take due t n rs j).rows
    unfolding take
    take_timed t [] n j h = tt
    take_timed t (r ∷ rs) n j h = cut_timed (amount t n r) r _ h.0 (take_timed t rs _ _ h.1)

    settle_timed : (q n : ℕ) (xs : List Row) → Timed low high xs → Timed low high (settle due q n xs)
    unfolding settle
    settle_timed q n [] t = tt
    settle_timed q n (x ∷ xs) t =
        cond_both (numbered n x) (cut due q x xs) (x ∷ settle due q n xs) (Timed low high)
        (λ e. cut_timed q x xs t.0 t.1) (λ e. (t.0, settle_timed q n xs t.1))

    -- ---- serving

    serve_row_timed : (r : Row) (c : ℕ) (d : Desk) → Timed low high d.rows → Timed low high (serve_row due r c d).rows
    unfolding serve_row
    serve_row_timed r c d h = settle_timed _ r.number _ (take_timed (taker_of r c) d.rows r.size [] h)

    pub serve_timed : (s : ℕ) (d : Desk) → Timed low high d.rows → Timed low high (serve due s d).rows
    serve_timed s d = serve_keeps (λ x. Timed low high x.rows) due s serve_row_timed d

-- ---- serving makes nobody due

module _ (due k : ℕ) (after : k < due) where
  serve_row_due : (r : Row) (c : ℕ) (d : Desk) → due_count k (serve_row due r c d).rows ≤ due_count k d.rows
  unfolding serve_row
  serve_row_due r c d =
      let f = take due (taker_of r c) r.size d.rows [] in
      omega (arith, settle_due due k after (r.size - f.left) r.number f.rows, take_due due k after (taker_of r c) d.rows r.size [])

  pub serve_due : (s : ℕ) (d : Desk) → due_count k (serve due s d).rows ≤ due_count k d.rows
  serve_due s d = serve_keeps (λ x. due_count k x.rows ≤ due_count k d.rows) due s (λ r c x h. omega (arith, serve_row_due r c x)) d (omega arith)

-- ---- a turn of the clock

-- the row of a number that it has
pub row_of_of : (r : Row) (xs : List Row) → Distinct xs → Has r xs → row_of r.number xs ≡ Some r
row_of_of r xs u h = by (row_of r.number xs) refl
  where
    by : (o : Option Row) → row_of r.number xs ≡ o → row_of r.number xs ≡ Some r
    by None e = absurd (row_of_none r.number xs e (face r) (has_in r xs h) refl)
    by (Some q) e = e ∙ ap Some (one xs u (row_of_has r.number xs q e) h (row_of_some r.number xs q e).1)
      where
        one : (ys : List Row) → Distinct ys → Has q ys → Has r ys → q.number ≡ r.number → q ≡ r
        one [] u a b n = absurd a
        one (y ∷ ys) u (inl a) (inl b) n = a ∙ sym b
        one (y ∷ ys) u (inl a) (inr b) n = absurd (u.0 (face r) (has_in r ys b) (sym n ∙ ap (λ (z : Row). z.number) a))
        one (y ∷ ys) u (inr a) (inl b) n = absurd (u.0 (face q) (has_in q ys a) (n ∙ ap (λ (z : Row). z.number) b))
        one (y ∷ ys) u (inr a) (inr b) n = one ys u.1 a b n

-- each held order is due after low and not after high, and at most b are due at the moment k
abbrev pub Clocked : ℕ → ℕ → ℕ → ℕ → List Row → Type 0
Clocked low high k b xs = Timed low high xs × (due_count k xs ≤ b)

module _ (low high k : ℕ) (soon : k ≤ low + 1000) (late : low ≤ k) (within : k + 1000 ≤ high) where
  moved_clocked : {top : ℕ} (d : Desk) (b : ℕ) (r : Row) (c m : ℕ) → Rested top d.rows → row_of r.number d.rows ≡ Some r → r.standing ≡ Held c m → m ≤ k → Timed low high d.rows → due_count k d.rows ≤ suc b → Clocked low high k b (move_on r c m d).rows
  moved_clocked d b r c m ok at how due t n =
      let p = onwards r c in
      let x = moved_to p (second_after m) r in
      let has = row_of_has r.number d.rows r at in
      let was : DueIn low high (Held c m) = subst (DueIn low high) how (has_timed low high r d.rows has t) in
      let one : due_one k r ≡ 1 = rw (how, le_true m due) in
      let gone : due_one k x ≡ 0 = rw how (by (eqb p r.limit) (m + 1000) (let w = was.0 in omega arith)) in
      let timed : DueIn low high x.standing = rw how (in_by (eqb p r.limit) (m + 1000) (let w = was.0 in omega arith) (omega arith)) in
      rw (moved_rows d ok r c m m at how) (
        insert_timed low high x (without r.number d.rows) timed (without_timed low high r.number d.rows t),
        omega (arith, insert_due k x (without r.number d.rows), without_due k r d.rows has),
      )
    where
      le_true : (m : ℕ) → m ≤ k → leb m k ≡ true
      le_true m h = decide (leb m k) (λ e. e) (λ e. absurd (let l = leb-false m k e in omega arith))

      by : (q : Bool) (d : ℕ) → k < d → cond {A = ℕ} (due_by k (once_moved q d (Held c m))) 1 0 ≡ 0
      by true d h = refl
      by false d h = rw (lt-leb d k h)

      in_by : (q : Bool) (d : ℕ) → low < d → d ≤ high → DueIn low high (once_moved q d (Held c m))
      in_by true d a z = tt
      in_by false d a z = (a, z)

  first_clocked : {top : ℕ} (d : Desk) (b : ℕ) → Rested top d.rows → (e : Due) → earliest d.rows ≡ Some e → e.moment ≤ k → Timed low high d.rows → due_count k d.rows ≤ suc b → Clocked low high k b (move_found k e.moment (row_of e.number d.rows) d).rows
  first_clocked {top} d b ok e w due t n =
      let f = earliest_some d.rows e w in
      let at : row_of f.row.number d.rows ≡ Some f.row = row_of_of f.row d.rows ok.0.distinct f.there in
      let at_e : row_of e.number d.rows ≡ Some f.row = subst (λ (y : ℕ). row_of y d.rows ≡ Some f.row) f.named at in
      let c = f.collar in
      let m = moved_clocked d b f.row c e.moment ok at f.how due t n in
      rw at_e (by f.row.standing f.how (
        serve_timed low high (second_after k) (omega arith) (omega arith) f.row.series (move_on f.row c e.moment d) m.0,
        omega (arith, serve_due (second_after k) k (omega arith) f.row.series (move_on f.row c e.moment d), m.1),
      ))
    where
      by : (s : Standing) → s ≡ Held (earliest_some d.rows e w).collar e.moment → Clocked low high k b (serve (second_after k) (earliest_some d.rows e w).row.series (move_on (earliest_some d.rows e w).row (earliest_some d.rows e w).collar e.moment d)).rows → Clocked low high k b (move_standing k e.moment s (earliest_some d.rows e w).row d).rows
      by s g h = rw g h

  pub turn_clocked : {top : ℕ} (d : Desk) (b : ℕ) → Rested top d.rows → Clocked low high k (suc b) d.rows → Clocked low high k b (turn k d).rows
  unfolding turn
  turn_clocked d b ok h = by (earliest d.rows) refl
    where
      by : (o : Option Due) → earliest d.rows ≡ o → Clocked low high k b (turn_found k o d).rows
      by None e = (h.0, omega (arith, nobody_due k d.rows e))
      by (Some q) e =
          cond_both (leb q.moment k) (move_found k q.moment (row_of q.number d.rows) d) d (λ x. Clocked low high k b x.rows)
          (λ z. first_clocked d b ok q e (leb-true q.moment k z) h.0 h.1)
          (λ z. (h.0, omega (arith, first_later k d.rows q e (leb-false q.moment k z))))

  -- b turns are enough where b orders are due
  pub turns_clocked : {top : ℕ} (b : ℕ) (d : Desk) → Rested top d.rows → Clocked low high k b d.rows → Clocked low high k 0 (turns b k d).rows
  unfolding turns
  turns_clocked zero d ok h = h
  turns_clocked (suc b) d ok h = turns_clocked b (turn k d) (turn_rested d k ok) (turn_clocked d b ok h)

-- where nobody is due, each held order is due later
pub none_due : (low high k : ℕ) (xs : List Row) → Timed low high xs → due_count k xs ≤ 0 → Timed k high xs
none_due low high k [] t n = tt
none_due low high k (x ∷ xs) t n = (at x.standing refl t.0, none_due low high k xs t.1 (omega arith))
  where
    at : (s : Standing) → x.standing ≡ s → DueIn low high x.standing → DueIn k high x.standing
    at Plain e d = rw e tt
    at (Held c m) e d =
        let old : DueIn low high (Held c m) = rw e at d in
        rw e (decide (leb m k)
        (λ l. absurd (let one : due_one k x ≡ 1 = rw (e, l) in omega arith))
        (λ l. (leb-false m k l, old.1)))
    at (Quote m) e d = rw e tt
