-- What trading, serving, moving and withdrawing leave of the rows, by what of a row stays while it rests.
use Rattle.std.proofs.Common.{◌≡◌, ℕ, zero, suc, ◌-◌, ◌<◌, ◌≤◌, min, true, false, eqb, ltb, ◌⊎◌, List, [], ◌∷◌, Some, None, sym, refl, ap, ◌∙◌, subst, inl, inr, ⊎_elim, arith}
use Rattle.std.proofs.lemmas.Bool.{leb-true, leb-false, eqb-true, eqb-false, eq-eqb, and_parts, cond_both}
use Rattle.values.specs.declared.side.Side.{Side}
use Rattle.values.specs.Sides.{opposite, NoMoreAggressive, no_more_aggressive}
use Rattle.book.specs.declared.row.Row.{Row}
use Rattle.book.specs.declared.row.Standing.{Standing}
use Rattle.book.specs.declared.row.Standing.TheVariants.{Plain, Held, Quote}
use Rattle.book.specs.declared.row.Taker.{Taker}
use Rattle.book.specs.declared.row.Trade.{Trade}
use Rattle.book.specs.Lists.{found, placed, lacking}
use Rattle.book.specs.Rows.{same_side, meets, precedes, numbered, insert, without, row_of, renewed, resized, put, cut, settle}
use Rattle.book.specs.Trades.{trade_with}
use Rattle.book.specs.Taking.{in_reach, amount, note, take, Has}
use Rattle.trading.proofs.Sides.{Beyond, decide, no_more_true, no_more_false, same_side_lem, same_self}

-- what a row is, without its moment
pub data Role : Type 0 where
  plain : Role
  held : ℕ → Role
  quote : ℕ → Role

abbrev pub role_of : Standing → Role
role_of Plain = plain
role_of (Held c d) = held c
role_of (Quote m) = quote m

-- what of a row stays while it rests: all but its size and its moment
pub record Face : Type 0 where
  pub number : ℕ
  pub series : ℕ
  pub side : Side
  pub display : ℕ
  pub limit : ℕ
  pub role : Role

abbrev pub face : Row → Face
face r = record { number = r.number; series = r.series; side = r.side; display = r.display; limit = r.limit; role = role_of r.standing }

pub face_number : {f g : Face} → f ≡ g → f.number ≡ g.number
face_number e = ap (λ (y : Face). y.number) e

pub face_series : {f g : Face} → f ≡ g → f.series ≡ g.series
face_series e = ap (λ (y : Face). y.series) e

pub face_side : {f g : Face} → f ≡ g → f.side ≡ g.side
face_side e = ap (λ (y : Face). y.side) e

pub renewed_role : (due : ℕ) (x : Standing) → role_of (renewed due x) ≡ role_of x
renewed_role due Plain = refl
renewed_role due (Held c d) = refl
renewed_role due (Quote m) = refl

pub resized_face : (due n : ℕ) (r : Row) → face (resized due n r) ≡ face r
resized_face due n r = ap (λ (x : Role). record { number = r.number; series = r.series; side = r.side; display = r.display; limit = r.limit; role = x }) (renewed_role due r.standing)

abbrev pub In : Face → List Row → Type 0
In f [] = ⊥
In f (r ∷ rs) = (f ≡ face r) ⊎ In f rs

-- each face of xs is one of ys
abbrev pub Within : List Row → List Row → Type 0
Within xs ys = (f : Face) → In f xs → In f ys

put_in : (due n : ℕ) (r : Row) (xs : List Row) (f : Face) → In f (put due n r xs) → In f (r ∷ xs)
put_in due zero r xs f i = inr i
put_in due (suc n) r xs f i = ⊎_elim (λ e. inl (e ∙ resized_face due (suc n) r)) inr i

pub cut_in : (due q : ℕ) (r : Row) (xs : List Row) (f : Face) → In f (cut due q r xs) → In f (r ∷ xs)
cut_in due zero r xs f i = i
cut_in due (suc q) r xs f i = put_in due (r.size - suc q) r xs f i

pub take_in : (due : ℕ) (t : Taker) (rs : List Row) (n : ℕ) (j : List Trade) → Within (take due t n rs j).rows rs
unfolding take
take_in due t [] n j f i = i
take_in due t (r ∷ rs) n j f i = ⊎_elim inl (λ h. inr (take_in due t rs _ _ f h)) (cut_in due (amount t n r) r _ f i)

pub settle_in : (due q n : ℕ) (xs : List Row) → Within (settle due q n xs) xs
unfolding settle
settle_in due q n [] f i = i
settle_in due q n (x ∷ xs) f i =
    cond_both (numbered n x) (cut due q x xs) (x ∷ settle due q n xs) (λ l. In f l → In f (x ∷ xs))
    (λ e h. cut_in due q x xs f h)
    (λ e h. ⊎_elim inl (λ g. inr (settle_in due q n xs f g)) h)
    i

pub insert_in : (r : Row) (xs : List Row) (f : Face) → In f (insert r xs) → (f ≡ face r) ⊎ In f xs
unfolding placed
insert_in r [] f i = i
insert_in r (x ∷ xs) f i =
    cond_both (precedes r x) (r ∷ (x ∷ xs)) (x ∷ insert r xs) (λ l. In f l → (f ≡ face r) ⊎ In f (x ∷ xs))
    (λ e h. h)
    (λ e h. ⊎_elim (λ g. inr (inl g)) (λ g. ⊎_elim inl (λ l. inr (inr l)) (insert_in r xs f g)) h)
    i

pub without_in : (n : ℕ) (xs : List Row) (f : Face) → In f (without n xs) → (In f xs) × (f.number ≡ n → ⊥)
unfolding lacking
without_in n [] f i = absurd i
without_in n (x ∷ xs) f i =
    cond_both (numbered n x) (without n xs) (x ∷ without n xs) (λ l. In f l → (In f (x ∷ xs)) × (f.number ≡ n → ⊥))
    (λ e h. let g = without_in n xs f h in (inr g.0, g.1))
    (λ e h. ⊎_elim (λ g. (inl g, λ z. eqb-false x.number n e (sym (face_number g) ∙ z))) (λ g. let l = without_in n xs f g in (inr l.0, l.1)) h)
    i

pub row_of_some : (n : ℕ) (xs : List Row) (r : Row) → row_of n xs ≡ Some r → (In (face r) xs) × (r.number ≡ n)
unfolding found
row_of_some n [] r e = cc
row_of_some n (x ∷ xs) r e =
    decide (numbered n x)
    (λ t. let same : x ≡ r = cc in (inl (ap face (sym same)), sym (ap (λ (y : Row). y.number) same) ∙ eqb-true x.number n t))
    (λ t. let later : row_of n xs ≡ Some r = cc in let h = row_of_some n xs r later in (inr h.0, h.1))

pub row_of_none : (n : ℕ) (xs : List Row) → row_of n xs ≡ None → (f : Face) → In f xs → f.number ≡ n → ⊥
unfolding found
row_of_none n [] e f i z = i
row_of_none n (x ∷ xs) e f i z =
    decide (numbered n x)
    (λ t. cc)
    (λ t. let later : row_of n xs ≡ None = cc in ⊎_elim (λ g. eqb-false x.number n t (sym (face_number g) ∙ z)) (λ g. row_of_none n xs later f g z) i)

-- ---- the row itself

pub has_in : (r : Row) (xs : List Row) → Has r xs → In (face r) xs
has_in r [] h = absurd h
has_in r (x ∷ xs) (inl e) = inl (ap face e)
has_in r (x ∷ xs) (inr h) = inr (has_in r xs h)

pub row_of_has : (n : ℕ) (xs : List Row) (r : Row) → row_of n xs ≡ Some r → Has r xs
unfolding found
row_of_has n [] r e = cc
row_of_has n (x ∷ xs) r e =
    decide (numbered n x)
    (λ t. let same : x ≡ r = cc in inl (sym same))
    (λ t. let later : row_of n xs ≡ Some r = cc in inr (row_of_has n xs r later))

-- ---- no size 0

abbrev pub Positive : List Row → Type 0
Positive [] = Unit {0}
Positive (r ∷ rs) = (0 < r.size) × Positive rs

pub has_positive : (r : Row) (xs : List Row) → Has r xs → Positive xs → 0 < r.size
has_positive r [] h p = absurd h
has_positive r (x ∷ xs) (inl e) p = subst (λ (y : Row). 0 < y.size) (sym e) p.0
has_positive r (x ∷ xs) (inr h) p = has_positive r xs h p.1

put_positive : (due n : ℕ) (r : Row) (xs : List Row) → Positive xs → Positive (put due n r xs)
put_positive due zero r xs h = h
put_positive due (suc n) r xs h = (omega arith, h)

pub cut_positive : (due q : ℕ) (r : Row) (xs : List Row) → 0 < r.size → Positive xs → Positive (cut due q r xs)
cut_positive due zero r xs p h = (p, h)
cut_positive due (suc q) r xs p h = put_positive due (r.size - suc q) r xs h

pub take_positive : (due : ℕ) (t : Taker) (rs : List Row) (n : ℕ) (j : List Trade) → Positive rs → Positive (take due t n rs j).rows
unfolding take
take_positive due t [] n j h = tt
take_positive due t (r ∷ rs) n j h = cut_positive due (amount t n r) r _ h.0 (take_positive due t rs _ _ h.1)

pub settle_positive : (due q n : ℕ) (xs : List Row) → Positive xs → Positive (settle due q n xs)
unfolding settle
settle_positive due q n [] h = tt
settle_positive due q n (x ∷ xs) h =
    cond_both (numbered n x) (cut due q x xs) (x ∷ settle due q n xs) Positive
    (λ e. cut_positive due q x xs h.0 h.1)
    (λ e. (h.0, settle_positive due q n xs h.1))

pub insert_positive : (r : Row) (xs : List Row) → 0 < r.size → Positive xs → Positive (insert r xs)
unfolding placed
insert_positive r [] p h = (p, tt)
insert_positive r (x ∷ xs) p h =
    cond_both (precedes r x) (r ∷ (x ∷ xs)) (x ∷ insert r xs) Positive (λ e. (p, h)) (λ e. (h.0, insert_positive r xs p h.1))

pub without_positive : (n : ℕ) (xs : List Row) → Positive xs → Positive (without n xs)
unfolding lacking
without_positive n [] h = tt
without_positive n (x ∷ xs) h =
    cond_both (numbered n x) (without n xs) (x ∷ without n xs) Positive (λ e. without_positive n xs h.1) (λ e. (h.0, without_positive n xs h.1))

-- ---- no number twice

abbrev pub Lacks : ℕ → List Row → Type 0
Lacks n xs = (f : Face) → In f xs → f.number ≡ n → ⊥

abbrev pub Distinct : List Row → Type 0
Distinct [] = Unit {0}
Distinct (r ∷ rs) = Lacks r.number rs × Distinct rs

put_distinct : (due n : ℕ) (r : Row) (xs : List Row) → Lacks r.number xs → Distinct xs → Distinct (put due n r xs)
put_distinct due zero r xs l h = h
put_distinct due (suc n) r xs l h = (l, h)

cut_distinct : (due q : ℕ) (r : Row) (xs : List Row) → Lacks r.number xs → Distinct xs → Distinct (cut due q r xs)
cut_distinct due zero r xs l h = (l, h)
cut_distinct due (suc q) r xs l h = put_distinct due (r.size - suc q) r xs l h

pub take_distinct : (due : ℕ) (t : Taker) (rs : List Row) (n : ℕ) (j : List Trade) → Distinct rs → Distinct (take due t n rs j).rows
unfolding take
take_distinct due t [] n j h = tt
take_distinct due t (r ∷ rs) n j h = cut_distinct due (amount t n r) r _ (λ f i. h.0 f (take_in due t rs _ _ f i)) (take_distinct due t rs _ _ h.1)

pub settle_distinct : (due q n : ℕ) (xs : List Row) → Distinct xs → Distinct (settle due q n xs)
unfolding settle
settle_distinct due q n [] h = tt
settle_distinct due q n (x ∷ xs) h =
    cond_both (numbered n x) (cut due q x xs) (x ∷ settle due q n xs) Distinct
    (λ e. cut_distinct due q x xs h.0 h.1)
    (λ e. (λ f i. h.0 f (settle_in due q n xs f i), settle_distinct due q n xs h.1))

pub insert_distinct : (r : Row) (xs : List Row) → Lacks r.number xs → Distinct xs → Distinct (insert r xs)
unfolding placed
insert_distinct r [] l h = (l, tt)
insert_distinct r (x ∷ xs) l h =
    cond_both (precedes r x) (r ∷ (x ∷ xs)) (x ∷ insert r xs) Distinct
    (λ e. (l, h))
    (λ e. (λ f i z. ⊎_elim (λ g. l (face x) (inl refl) (sym z ∙ face_number g)) (λ g. h.0 f g z) (insert_in r xs f i), insert_distinct r xs (λ f i. l f (inr i)) h.1))

pub without_distinct : (n : ℕ) (xs : List Row) → Distinct xs → Distinct (without n xs)
unfolding lacking
without_distinct n [] h = tt
without_distinct n (x ∷ xs) h =
    cond_both (numbered n x) (without n xs) (x ∷ without n xs) Distinct
    (λ e. without_distinct n xs h.1)
    (λ e. (λ f i. h.0 f (without_in n xs f i).0, without_distinct n xs h.1))

-- two faces of one number are one
pub unique : (xs : List Row) → Distinct xs → (f g : Face) → In f xs → In g xs → f.number ≡ g.number → f ≡ g
unique [] h f g i j e = absurd i
unique (x ∷ xs) h f g (inl a) (inl b) e = a ∙ sym b
unique (x ∷ xs) h f g (inl a) (inr b) e = absurd (h.0 g b (sym e ∙ face_number a))
unique (x ∷ xs) h f g (inr a) (inl b) e = absurd (h.0 f a (e ∙ face_number b))
unique (x ∷ xs) h f g (inr a) (inr b) e = unique xs h.1 f g a b e

-- ---- a row that traded all is gone

put_gone : (due n : ℕ) (r : Row) (xs : List Row) → n ≡ 0 → Within (put due n r xs) xs
put_gone due zero r xs e f i = i
put_gone due (suc n) r xs e f i = absurd (omega arith)

pub cut_gone : (due q : ℕ) (r : Row) (xs : List Row) → 0 < r.size → r.size ≤ q → Within (cut due q r xs) xs
cut_gone due zero r xs p e f i = absurd (omega arith)
cut_gone due (suc q) r xs p e f i = put_gone due (r.size - suc q) r xs (omega arith) f i

pub settle_gone : (due q : ℕ) (r : Row) (xs : List Row) → Has r xs → Positive xs → r.size ≤ q → Distinct xs → Lacks r.number (settle due q r.number xs)
unfolding settle
settle_gone due q r [] has p e h f i z = i
settle_gone due q r (x ∷ xs) has p e h f i z =
    cond_both (numbered r.number x) (cut due q x xs) (x ∷ settle due q r.number xs) (λ l. In f l → ⊥)
    (λ t m. h.0 f (cut_gone due q x xs p.0 (here has (eqb-true x.number r.number t)) f m) (z ∙ sym (eqb-true x.number r.number t)))
    (λ t m. ⊎_elim (λ g. eqb-false x.number r.number t (sym (face_number g) ∙ z)) (λ g. settle_gone due q r xs (there has (eqb-false x.number r.number t)) p.1 e h.1 f g z) m)
    i
  where
    here : Has r (x ∷ xs) → x.number ≡ r.number → x.size ≤ q
    here (inl s) n = subst (λ (y : Row). y.size ≤ q) s e
    here (inr s) n = absurd (h.0 (face r) (has_in r xs s) (sym n))

    there : Has r (x ∷ xs) → (x.number ≡ r.number → ⊥) → Has r xs
    there (inl s) n = absurd (n (ap (λ (y : Row). y.number) (sym s)))
    there (inr s) n = s

-- ---- after a taker that has contracts left no contra row is in its reach

pub take_left : (due : ℕ) (t : Taker) (rs : List Row) (n : ℕ) (j : List Trade) → (take due t n rs j).left ≤ n
unfolding take
take_left due t [] n j = omega arith
take_left due t (r ∷ rs) n j =
    let q = amount t n r in
    omega (arith, take_left due t rs (n - q) (note q (trade_with t q r) j))

abbrev pub Clear : Taker → List Row → Type 0
Clear t xs = (f : Face) → In f xs → f.series ≡ t.series → f.side ≡ opposite t.side → Beyond t.side f.display t.reach

-- a contra row of the series is met, or lies beyond
pub met_true : (s : ℕ) (side : Side) (p : ℕ) (q : Row) → meets s side p q ≡ true → (q.series ≡ s) × (q.side ≡ opposite side) × (no_more_aggressive side q.display p ≡ true)
met_true s side p q e =
    let a = and_parts (eqb q.series s) _ e in
    let b = and_parts (same_side q.side (opposite side)) _ a.1 in
    (eqb-true q.series s a.0, same_side_lem q.side (opposite side) b.0, b.1)

pub met_false : (s : ℕ) (side : Side) (p : ℕ) (q : Row) → meets s side p q ≡ false → q.series ≡ s → q.side ≡ opposite side → Beyond side q.display p
met_false s side p q n se si =
    let a : eqb q.series s ≡ true = eq-eqb q.series s se in
    let b : same_side q.side (opposite side) ≡ true = subst (λ (z : Side). same_side z (opposite side) ≡ true) (sym si) (same_self (opposite side)) in
    no_more_false side q.display p (let z : no_more_aggressive side q.display p ≡ false = rw (a, b) at n in z)

pub reach_true : (t : Taker) (r : Row) → in_reach t r ≡ true → (r.series ≡ t.series) × (r.side ≡ opposite t.side) × NoMoreAggressive t.side r.display t.reach
reach_true t r e = let m = met_true t.series t.side t.reach r e in (m.0, m.1, no_more_true t.side r.display t.reach m.2)

pub amount_reach : (t : Taker) (n : ℕ) (r : Row) → 0 < amount t n r → in_reach t r ≡ true
amount_reach t n r h = decide (in_reach t r) (λ e. e) (λ e. absurd (let z : amount t n r ≡ 0 = rw e in omega arith))

pub take_clear : (due : ℕ) (t : Taker) (rs : List Row) (n : ℕ) (j : List Trade) → Positive rs → 0 < (take due t n rs j).left → Clear t (take due t n rs j).rows
unfolding take
take_clear due t [] n j p h f i s o = absurd i
take_clear due t (r ∷ rs) n j p h f i s o =
    let q = amount t n r in
    let j' = note q (trade_with t q r) j in
    let more : (take due t (n - q) rs j').left ≤ n - q = take_left due t rs (n - q) j' in
    decide (in_reach t r)
    (λ e.
    let all : q ≡ min n r.size = cond_true e in
    take_clear due t rs (n - q) j' p.1 h f (cut_gone due q r _ p.0 (omega arith) f i) s o)
    (λ e. ⊎_elim
    (λ g. subst (λ (y : Face). Beyond t.side y.display t.reach) (sym g) (met_false t.series t.side t.reach r e (sym (face_series g) ∙ s) (sym (face_side g) ∙ o)))
    (λ g. take_clear due t rs (n - q) j' p.1 h f g s o)
    (cut_in due q r _ f i))
  where
    cond_true : in_reach t r ≡ true → amount t n r ≡ min n r.size
    cond_true e = rw e

-- ---- a taker does not touch the rows of its own side

cut_tail : (due q : ℕ) (x : Row) (xs : List Row) (r : Row) → Has r xs → Has r (cut due q x xs)
cut_tail due zero x xs r h = inr h
cut_tail due (suc q) x xs r h = put_tail (x.size - suc q)
  where
    put_tail : (n : ℕ) → Has r (put due n x xs)
    put_tail zero = h
    put_tail (suc n) = inr h

cut_same : (due q : ℕ) (x : Row) (xs : List Row) → q ≡ 0 → Has x (cut due q x xs)
cut_same due zero x xs e = inl refl
cut_same due (suc q) x xs e = absurd (omega arith)

pub take_has : (due : ℕ) (t : Taker) (rs : List Row) (n : ℕ) (j : List Trade) (r : Row) → (r.side ≡ opposite t.side → ⊥) → Has r rs → Has r (take due t n rs j).rows
unfolding take
take_has due t [] n j r o h = absurd h
take_has due t (x ∷ rs) n j r o (inl e) =
    subst (λ (y : Row). Has y (cut due (amount t n x) x (take due t (n - amount t n x) rs (note (amount t n x) (trade_with t (amount t n x) x) j)).rows)) (sym e)
    (cut_same due (amount t n x) x _ (decide (ltb 0 (amount t n x))
    (λ l. absurd (o (ap (λ (y : Row). y.side) e ∙ (reach_true t x (amount_reach t n x (leb-true 1 (amount t n x) l))).1)))
    (λ l. let z = leb-false 1 (amount t n x) l in omega arith)))
take_has due t (x ∷ rs) n j r o (inr h) = cut_tail due (amount t n x) x _ r (take_has due t rs (n - amount t n x) _ r o h)
