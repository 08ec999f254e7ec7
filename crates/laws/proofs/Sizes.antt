-- The contracts of each number in the rows, and how trading, settling, moving and withdrawing change them.
use Rattle.std.proofs.Common.{◌≡◌, ℕ, zero, suc, ◌+◌, ◌-◌, ◌<◌, ◌≤◌, min, Bool, true, false, cond, ◌||◌, eqb, List, [], ◌∷◌, ◌++◌, sym, refl, ap, ◌∙◌, subst, inl, inr, arith}
use Rattle.std.proofs.lemmas.Bool.{eqb-true, eqb-false, eq-eqb, ne_eqb, cond_both}
use Rattle.values.specs.Sides.{opposite}
use Rattle.book.specs.declared.row.Row.{Row}
use Rattle.book.specs.declared.row.Taker.{Taker}
use Rattle.book.specs.declared.row.Trade.{Trade}
use Rattle.book.specs.Lists.{placed, lacking}
use Rattle.book.specs.Rows.{precedes, numbered, insert, without, put, cut, settle}
use Rattle.book.specs.Taking.{in_reach, amount, note, take, Has}
use Rattle.book.specs.Trades.{trade_with}
use Rattle.trading.specs.Journals.{Event, noting}
use Rattle.trading.proofs.Sides.{decide}
use Rattle.trading.proofs.Faces.{Face, face, In, has_in, Lacks, Distinct, reach_true, amount_reach}
use Rattle.laws.specs.Displays.{traded_of}

abbrev pub size_in : ℕ → List Row → ℕ
size_in n [] = 0
size_in n (r ∷ rs) = cond (numbered n r) r.size 0 + size_in n rs

pub size_in_lem : (n : ℕ) (xs : List Row) → 0 < size_in n xs → (f : Face) × (In f xs) × (f.number ≡ n)
size_in_lem n [] h = absurd (omega arith)
size_in_lem n (x ∷ xs) h =
    decide (numbered n x)
    (λ t. (face x, inl refl, eqb-true x.number n t))
    (λ t. let z : cond (numbered n x) x.size 0 ≡ 0 = rw t in let g = size_in_lem n xs (omega arith) in (g.0, inr g.1, g.2))

pub size_lacks : (n : ℕ) (xs : List Row) → Lacks n xs → size_in n xs ≡ 0
size_lacks n [] l = refl
size_lacks n (x ∷ xs) l =
    let t : numbered n x ≡ false = ne_eqb x.number n (l (face x) (inl refl)) in
    let z : cond (numbered n x) x.size 0 ≡ 0 = rw t in
    omega (arith, size_lacks n xs (λ f i. l f (inr i)))

pub has_size : (r : Row) (xs : List Row) → Distinct xs → Has r xs → size_in r.number xs ≡ r.size
has_size r [] u h = absurd h
has_size r (x ∷ xs) u (inl e) =
    let t : numbered r.number x ≡ true = eq-eqb x.number r.number (ap (λ (y : Row). y.number) (sym e)) in
    let a : cond (numbered r.number x) x.size 0 ≡ x.size = rw t in
    let b : x.size ≡ r.size = ap (λ (y : Row). y.size) (sym e) in
    let c : size_in r.number xs ≡ 0 = size_lacks r.number xs (λ f i z. u.0 f i (z ∙ ap (λ (y : Row). y.number) e)) in
    omega arith
has_size r (x ∷ xs) u (inr h) =
    let t : numbered r.number x ≡ false = ne_eqb x.number r.number (λ z. u.0 (face r) (has_in r xs h) (sym z)) in
    let a : cond (numbered r.number x) x.size 0 ≡ 0 = rw t in
    omega (arith, has_size r xs u.1 h)

pub cond_sum : (b : Bool) (x y z : ℕ) → x + y ≡ z → cond b x 0 + cond b y 0 ≡ cond b z 0
cond_sum true x y z e = e
cond_sum false x y z e = omega arith

pub cond_zero : (b : Bool) → cond {A = ℕ} b 0 0 ≡ 0
cond_zero true = refl
cond_zero false = refl

put_size : (due n : ℕ) (r : Row) (xs : List Row) (i : ℕ) → size_in i (put due n r xs) ≡ cond (numbered i r) n 0 + size_in i xs
put_size due zero r xs i = omega (arith, cond_zero (numbered i r))
put_size due (suc n) r xs i = refl

pub cut_size : (due q : ℕ) (r : Row) (xs : List Row) (i : ℕ) → q ≤ r.size → size_in i (cut due q r xs) + cond (numbered i r) q 0 ≡ cond (numbered i r) r.size 0 + size_in i xs
cut_size due zero r xs i h = omega (arith, cond_zero (numbered i r))
cut_size due (suc q) r xs i h = omega (arith, put_size due (r.size - suc q) r xs i, cond_sum (numbered i r) (r.size - suc q) (suc q) r.size (omega arith))

pub insert_size : (x : Row) (xs : List Row) (i : ℕ) → size_in i (insert x xs) ≡ cond (numbered i x) x.size 0 + size_in i xs
unfolding placed
insert_size x [] i = refl
insert_size x (y ∷ ys) i =
    cond_both (precedes x y) (x ∷ (y ∷ ys)) (y ∷ insert x ys) (λ l. size_in i l ≡ cond (numbered i x) x.size 0 + size_in i (y ∷ ys))
    (λ e. refl) (λ e. omega (arith, insert_size x ys i))

pub without_size : (n : ℕ) (xs : List Row) (i : ℕ) → (i ≡ n → ⊥) → size_in i (without n xs) ≡ size_in i xs
unfolding lacking
without_size n [] i h = refl
without_size n (x ∷ xs) i h =
    cond_both (numbered n x) (without n xs) (x ∷ without n xs) (λ l. size_in i l ≡ size_in i (x ∷ xs))
    (λ e.
    let t : numbered i x ≡ false = ne_eqb x.number i (λ z. h (sym z ∙ eqb-true x.number n e)) in
    let a : cond (numbered i x) x.size 0 ≡ 0 = rw t in
    omega (arith, without_size n xs i h))
    (λ e. omega (arith, without_size n xs i h))

pub without_gone : (n : ℕ) (xs : List Row) → size_in n (without n xs) ≡ 0
unfolding lacking
without_gone n [] = refl
without_gone n (x ∷ xs) =
    cond_both (numbered n x) (without n xs) (x ∷ without n xs) (λ l. size_in n l ≡ 0)
    (λ e. without_gone n xs)
    (λ e. let a : cond (numbered n x) x.size 0 ≡ 0 = rw e in omega (arith, without_gone n xs))

-- the row r taken out, whatever number is asked for
pub without_all : (r : Row) (xs : List Row) (i : ℕ) → Distinct xs → Has r xs → size_in i (without r.number xs) + cond (numbered i r) r.size 0 ≡ size_in i xs
without_all r xs i u h =
    decide (numbered i r)
    (λ e.
    let same : r.number ≡ i = eqb-true r.number i e in
    let a : size_in i (without r.number xs) ≡ 0 = subst (λ (y : ℕ). size_in y (without r.number xs) ≡ 0) same (without_gone r.number xs) in
    let b : size_in i xs ≡ r.size = subst (λ (y : ℕ). size_in y xs ≡ r.size) same (has_size r xs u h) in
    let c : cond (numbered i r) r.size 0 ≡ r.size = rw e in
    omega arith)
    (λ e.
    let c : cond (numbered i r) r.size 0 ≡ 0 = rw e in
    omega (arith, without_size r.number xs i (λ z. eqb-false r.number i e (sym z))))

pub settle_size : (due q n : ℕ) (xs : List Row) (i : ℕ) → Distinct xs → q ≤ size_in n xs → size_in i (settle due q n xs) + cond (eqb n i) q 0 ≡ size_in i xs
unfolding settle
settle_size due q n [] i u b = let z : q ≡ 0 = omega arith in let c : cond (eqb n i) q 0 ≡ 0 = ap (λ (y : ℕ). cond (eqb n i) y 0) z ∙ cond_zero (eqb n i) in omega arith
settle_size due q n (x ∷ xs) i u b =
    cond_both (numbered n x) (cut due q x xs) (x ∷ settle due q n xs) (λ l. size_in i l + cond (eqb n i) q 0 ≡ size_in i (x ∷ xs))
    (λ e.
    let same : x.number ≡ n = eqb-true x.number n e in
    let a : cond (numbered n x) x.size 0 ≡ x.size = rw e in
    let g : size_in n xs ≡ 0 = size_lacks n xs (λ f j z. u.0 f j (z ∙ sym same)) in
    let d : cond (eqb n i) q 0 ≡ cond (numbered i x) q 0 = ap (λ (y : ℕ). cond (eqb y i) q 0) (sym same) in
    omega (arith, cut_size due q x xs i (omega arith)))
    (λ e.
    let a : cond (numbered n x) x.size 0 ≡ 0 = rw e in
    omega (arith, settle_size due q n xs i u.1 (omega arith)))

-- ---- a taker's trades move contracts from the rows and from its own

pub amount_le : (t : Taker) (n : ℕ) (r : Row) → (amount t n r ≤ n) × (amount t n r ≤ r.size)
amount_le t n r = cond_both (in_reach t r) (min n r.size) 0 (λ x. (x ≤ n) × (x ≤ r.size)) (λ e. omega arith) (λ e. omega arith)

-- a taker's own number is not among its contra rows
abbrev pub Foreign : Taker → List Row → Type 0
Foreign t xs = (f : Face) → In f xs → f.side ≡ opposite t.side → f.number ≡ t.number → ⊥

once : (a b : Bool) (q : ℕ) → (0 < q → a ≡ true → b ≡ true → ⊥) → cond (a || b) q 0 ≡ cond a q 0 + cond b q 0
once true true zero h = refl
once true true (suc q) h = absurd (h (omega arith) refl refl)
once true false q h = omega arith
once false b q h = omega arith

module _ (older : List Event) where
  note_traded : (q : ℕ) (t : Taker) (r : Row) (j : List Trade) (J : List Event) (i : ℕ) → traded_of i (noting (note q (trade_with t q r) j) J ++ older) ≡ cond (eqb t.number i || eqb r.number i) q 0 + traded_of i (noting j J ++ older)
  unfolding traded_of
  note_traded zero t r j J i = omega (arith, cond_zero (eqb t.number i || eqb r.number i))
  note_traded (suc q) t r j J i = refl

  pub take_sizes : (due : ℕ) (t : Taker) (rs : List Row) (n : ℕ) (j : List Trade) (J : List Event) → Foreign t rs → (i : ℕ) → traded_of i (noting (take due t n rs j).trades J ++ older) + size_in i (take due t n rs j).rows + cond (eqb t.number i) (take due t n rs j).left 0 ≡ traded_of i (noting j J ++ older) + size_in i rs + cond (eqb t.number i) n 0
  unfolding take
  take_sizes due t [] n j J foreign i = refl
  take_sizes due t (r ∷ rs) n j J foreign i =
      let q = amount t n r in
      let j' = note q (trade_with t q r) j in
      let b = amount_le t n r in
      let far = take_sizes due t rs (n - q) j' J (λ f l. foreign f (inr l)) i in
      let a = note_traded q t r j J i in
      let c = once (eqb t.number i) (eqb r.number i) q (λ p x y. foreign (face r) (inl refl) (reach_true t r (amount_reach t n r p)).1 (eqb-true r.number i y ∙ sym (eqb-true t.number i x))) in
      let d = cut_size due q r (take due t (n - q) rs j').rows i b.1 in
      let e = cond_sum (eqb t.number i) (n - q) q n (omega arith) in
      omega arith
