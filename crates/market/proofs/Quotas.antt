-- How many rows a call withdraws: one by number, one on a side, at most 128 of one maker.
use Rattle.std.proofs.Common.{◌≡◌, ℕ, zero, suc, ◌+◌, ◌*◌, ◌≤◌, Bool, true, false, cond, not, ◌&&◌, eqb, ltb, leb, ◌⊎◌, List, [], ◌∷◌, length, is_some, Some, None, Option, sym, refl, ap, ◌∙◌, subst, inl, inr, ⊎_elim, arith}
use Rattle.std.proofs.lemmas.Bool.{le-leb, lt-leb, ltb-true, lt-ltb, eqb-true, eqb-false, eq-eqb, and_parts, and_from, not-true, cases_eq}
use Rattle.std.proofs.lemmas.List.{length-take}
use Rattle.values.specs.declared.side.Side.{Side}
use Rattle.values.specs.declared.side.Side.TheVariants.{Buy, Sell}
use Rattle.book.specs.declared.row.Row.{Row}
use Rattle.book.specs.declared.row.Standing.{Standing}
use Rattle.book.specs.declared.row.Standing.TheVariants.{Plain, Held, Quote}
use Rattle.book.specs.Lists.{every, pairwise}
use Rattle.book.specs.Rows.{same_side, stands_at, numbered, same_maker, same_quote, agrees, Sound, lowest, wanted_from}
use Rattle.book.specs.Taking.{Has}
use Rattle.trading.specs.declared.floor.Floor.{Floor}
use Rattle.trading.specs.Doing.{count}
use Rattle.trading.specs.Floors.{rows_on}
use Rattle.trading.specs.Rests.{in_series}
use Rattle.trading.proofs.Sides.{clash, decide, same_side_lem, same_self}
use Rattle.trading.proofs.Each.{every_has, lowest_none, lowest_some}
use Rattle.market.specs.declared.series.Series.{Series}
use Rattle.market.specs.Tests.{is_mine, on_side}
use Rattle.market.specs.Listings.{class_in, mine_in}

-- ---- counting rows

pub count_zero : (p : Row → Bool) (xs : List Row) → ((y : Row) → Has y xs → p y ≡ false) → count p xs ≡ 0
unfolding count
count_zero p [] h = refl
count_zero p (x ∷ xs) h = let z : cond {A = ℕ} (p x) 1 0 ≡ 0 = rw (h x (inl refl)) in omega (arith, count_zero p xs (λ y i. h y (inr i)))

-- where no two rows that pass may rest together, one passes at most
count_one : (p : Row → Bool) → ((x y : Row) → p x ≡ true → p y ≡ true → agrees x y ≡ true → ⊥) → (xs : List Row) → pairwise agrees xs ≡ true → count p xs ≤ 1
unfolding count
count_one p never [] u = omega arith
count_one p never (x ∷ xs) u =
    let a = and_parts (every (agrees x) xs) (pairwise agrees xs) u in
    decide (p x)
    (λ e. let z : cond {A = ℕ} (p x) 1 0 ≡ 1 = rw e in
    omega (arith, count_zero p xs (λ y i. decide (p y) (λ t. absurd (never x y e t (every_has (agrees x) xs a.0 y i))) (λ t. t))))
    (λ e. let z : cond {A = ℕ} (p x) 1 0 ≡ 0 = rw e in omega (arith, count_one p never xs a.1))

count_le : (p q : Row → Bool) (xs : List Row) → ((r : Row) → Has r xs → p r ≡ true → q r ≡ true) → count p xs ≤ count q xs
unfolding count
count_le p q [] h = omega arith
count_le p q (x ∷ xs) h =
    decide (p x)
    (λ e. let a : cond {A = ℕ} (p x) 1 0 ≡ 1 = rw e in let b : cond {A = ℕ} (q x) 1 0 ≡ 1 = rw (h x (inl refl) e) in omega (arith, count_le p q xs (λ r i. h r (inr i))))
    (λ e. let a : cond {A = ℕ} (p x) 1 0 ≡ 0 = rw e in omega (arith, count_le p q xs (λ r i. h r (inr i))))

count_split : (p a b c : Row → Bool) → ((r : Row) → p r ≡ true → (a r ≡ true) ⊎ ((b r ≡ true) ⊎ (c r ≡ true))) → (xs : List Row) → count p xs ≤ count a xs + count b xs + count c xs
unfolding count
count_split p a b c h [] = omega arith
count_split p a b c h (x ∷ xs) =
    decide (p x)
    (λ e. let z : cond {A = ℕ} (p x) 1 0 ≡ 1 = rw e in
    ⊎_elim
    (λ t. let y : cond {A = ℕ} (a x) 1 0 ≡ 1 = rw t in omega (arith, count_split p a b c h xs))
    (λ s. ⊎_elim
    (λ t. let y : cond {A = ℕ} (b x) 1 0 ≡ 1 = rw t in omega (arith, count_split p a b c h xs))
    (λ t. let y : cond {A = ℕ} (c x) 1 0 ≡ 1 = rw t in omega (arith, count_split p a b c h xs))
    s)
    (h x e))
    (λ e. let z : cond {A = ℕ} (p x) 1 0 ≡ 0 = rw e in omega (arith, count_split p a b c h xs))

pub count_both : (p : Row → Bool) (xs : List Row) → count p xs + count (λ r. not (p r)) xs ≡ length xs
unfolding count
count_both p [] = refl
count_both p (x ∷ xs) =
    decide (p x)
    (λ e. let a : cond {A = ℕ} (p x) 1 0 ≡ 1 = rw e in let b : cond {A = ℕ} (not (p x)) 1 0 ≡ 0 = rw e in omega (arith, count_both p xs))
    (λ e. let a : cond {A = ℕ} (p x) 1 0 ≡ 0 = rw e in let b : cond {A = ℕ} (not (p x)) 1 0 ≡ 1 = rw e in omega (arith, count_both p xs))

-- ---- one row by number

pub numbered_one : (n : ℕ) (xs : List Row) → Sound xs → count (numbered n) xs ≤ 1
numbered_one n xs s = count_one (numbered n) (λ x y a b g.
    let d = not-true (eqb x.number y.number) (and_parts (not (eqb x.number y.number)) _ g).0 in
    eqb-false x.number y.number d (eqb-true x.number n a ∙ sym (eqb-true y.number n b))) xs s.1

-- ---- one quote on a side

mine_quote : (k : ℕ) (x : Standing) → is_mine k x ≡ true → x ≡ Quote k
mine_quote k Plain e = absurd (clash false e refl)
mine_quote k (Held c d) e = absurd (clash false e refl)
mine_quote k (Quote i) e = ap Quote (eqb-true i k e)

side_parts : (k s : ℕ) (side : Side) (x : Row) → on_side k s side x ≡ true → (x.standing ≡ Quote k) × (x.series ≡ s) × (x.side ≡ side)
side_parts k s side x e =
    let a = and_parts (is_mine k x.standing) (eqb x.series s && same_side x.side side) e in
    let b = and_parts (eqb x.series s) (same_side x.side side) a.1 in
    (mine_quote k x.standing a.0, eqb-true x.series s b.0, same_side_lem x.side side b.1)

pub side_one : (k s : ℕ) (side : Side) (xs : List Row) → Sound xs → count (on_side k s side) xs ≤ 1
side_one k s side xs sound = count_one (on_side k s side) (λ x y a b g.
    let p = side_parts k s side x a in
    let q = side_parts k s side y b in
    let no : same_quote x y ≡ false = not-true (same_quote x y) (and_parts _ (not (same_quote x y)) (and_parts (not (eqb x.number y.number)) _ g).1).1 in
    let st : stands_at x.series x.side y ≡ true = and_from _ _ (eq-eqb y.series x.series (q.1 ∙ sym p.1)) (subst (λ (z : Side). same_side y.side z ≡ true) (q.2 ∙ sym p.2) (same_self y.side)) in
    let mk : same_maker x.standing y.standing ≡ true = subst (λ (z : Standing). same_maker z y.standing ≡ true) (sym p.0) (subst (λ (z : Standing). same_maker (Quote k) z ≡ true) (sym q.0) (eq-eqb k k refl)) in
    clash (same_quote x y) (and_from _ _ st mk) no) xs sound.1

-- ---- at most two quotes of a maker for each series

below : ℕ → ℕ → Row → Bool
below k n r = is_mine k r.standing && ltb r.series n

below_step : (k n : ℕ) (r : Row) → below k (suc n) r ≡ true → (below k n r ≡ true) ⊎ ((on_side k n Buy r ≡ true) ⊎ (on_side k n Sell r ≡ true))
unfolding below
below_step k n r e =
    let a = and_parts (is_mine k r.standing) (ltb r.series (suc n)) e in
    let l = ltb-true r.series (suc n) a.1 in
    ⊎_elim
    (λ s. inr (side r.side refl a.0 (eq-eqb r.series n s)))
    (λ s. inl (and_from (is_mine k r.standing) (ltb r.series n) a.0 (lt-ltb r.series n (omega arith))))
    (cases_eq r.series n)
  where
    side : (x : Side) → r.side ≡ x → is_mine k r.standing ≡ true → eqb r.series n ≡ true → (on_side k n Buy r ≡ true) ⊎ (on_side k n Sell r ≡ true)
    side Buy z a b = inl (rw (a, b, z))
    side Sell z a b = inr (rw (a, b, z))

below_count : (k : ℕ) (xs : List Row) → Sound xs → (n : ℕ) → count (below k n) xs ≤ 2 * n
unfolding below
below_count k xs u zero = let z = count_zero (below k 0) xs (λ y i. decide (below k 0 y) (λ e. absurd (let l = ltb-true y.series 0 (and_parts (is_mine k y.standing) (ltb y.series 0) e).1 in omega arith)) (λ e. e)) in omega arith
below_count k xs u (suc n) = omega (arith, count_split (below k (suc n)) (below k n) (on_side k n Buy) (on_side k n Sell) (below_step k n) xs, below_count k xs u n, side_one k n Buy xs u, side_one k n Sell xs u)

pub class_few : (ss : List Series) (k c : ℕ) (xs : List Row) → Sound xs → every in_series xs ≡ true → count (mine_in ss k c) xs ≤ 128
unfolding below
class_few ss k c xs sound listed = omega (
  arith,
  below_count k xs sound 64,
  count_le (mine_in ss k c) (below k 64) xs (λ r h e. and_from (is_mine k r.standing) (ltb r.series 64) (and_parts (is_mine k r.standing) (eqb (class_in ss r.series) c) e).0 (every_has in_series xs listed r h)),
)

-- ---- the book is full

-- at most 256 rows rest
pub few_rows : (f : Floor) → length (rows_on f) ≤ 256
few_rows f = omega (arith, length-take f.book.resting.count f.book.resting.slots, f.book.resting.few)

count_some : (p : Row → Bool) (xs : List Row) (r : Row) → Has r xs → p r ≡ true → 1 ≤ count p xs
unfolding count
count_some p [] r h e = absurd h
count_some p (x ∷ xs) r (inl s) e = let z : cond {A = ℕ} (p x) 1 0 ≡ 1 = rw (subst (λ (y : Row). p y ≡ true) s e) in omega arith
count_some p (x ∷ xs) r (inr h) e = omega (arith, count_some p xs r h e)

-- 256 rows rest besides the quote that would be replaced
pub full_is : (p : Row → Bool) (xs : List Row) → length xs ≤ 256 → (o : Option Row) → lowest (wanted_from p 0) xs ≡ o → leb 256 (count (λ r. not (p r)) xs) ≡ (not (is_some o) && leb 256 (length xs))
full_is p xs few None e =
    let none = count_zero p xs (λ r h. decide (p r) (λ t. absurd (clash _ (and_from (leb 0 r.number) (p r) (le-leb 0 r.number (omega arith)) t) (lowest_none (wanted_from p 0) xs e r h))) (λ t. t)) in
    let both = count_both p xs in
    ap (leb 256) (omega arith)
full_is p xs few (Some r) e =
    let low = lowest_some (wanted_from p 0) xs r e in
    let some = count_some p xs r low.there (and_parts (leb 0 r.number) (p r) low.passes).1 in
    let both = count_both p xs in
    lt-leb 256 (count (λ r. not (p r)) xs) (omega arith)
