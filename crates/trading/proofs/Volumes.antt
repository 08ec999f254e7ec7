-- How many trades serving makes: each of them but one takes a row away.
use Rattle.std.proofs.Common.{◌≡◌, ℕ, zero, suc, ◌+◌, ◌-◌, ◌<◌, ◌≤◌, min, true, false, ltb, List, [], ◌∷◌, ◌++◌, reverse, length, sym, refl, ap, ◌∙◌, subst, inl, inr, append_assoc, append-nil, arith}
use mathlib.Core.List.{reverse-cons}
use Rattle.std.proofs.lemmas.List.{length-reverse}
use Rattle.std.proofs.lemmas.Bool.{leb-true, leb-false, eqb-true, eqb-false, cond_both}
use Rattle.book.specs.declared.row.Row.{Row}
use Rattle.book.specs.declared.row.Taker.{Taker}
use Rattle.book.specs.declared.row.Trade.{Trade}
use Rattle.book.specs.Rows.{numbered, put, cut, settle}
use Rattle.book.specs.Trades.{trade_with}
use Rattle.book.specs.Taking.{in_reach, amount, note, take, Has}
use Rattle.book.proofs.Settles.{length_settle}
use Rattle.book.proofs.Takes.{take_few}
use Rattle.trading.specs.Journals.{Event, trades_of, withdrawals_of, noting}
use Rattle.trading.specs.Desks.{taker_of}
use Rattle.trading.proofs.Sides.{decide, not_opposite}
use Rattle.trading.proofs.Faces.{has_in, Positive, Distinct, take_has, take_distinct, take_left, has_positive, face}

length_note : (q : ℕ) (e : Trade) (j : List Trade) → length (note q e j) ≤ suc (length j)
length_note zero e j = omega arith
length_note (suc q) e j = omega arith

note_none : (q : ℕ) (e : Trade) (j : List Trade) → q ≡ 0 → length (note q e j) ≡ length j
note_none zero e j h = refl
note_none (suc q) e j h = absurd (omega arith)

cut_length : (due q : ℕ) (r : Row) (xs : List Row) → length (cut due q r xs) ≤ suc (length xs)
cut_length due zero r xs = omega arith
cut_length due (suc q) r xs = put_length (r.size - suc q)
  where
    put_length : (n : ℕ) → length (put due n r xs) ≤ suc (length xs)
    put_length zero = omega arith
    put_length (suc n) = omega arith

cut_none : (due q : ℕ) (r : Row) (xs : List Row) → 0 < q → r.size ≤ q → length (cut due q r xs) ≡ length xs
cut_none due zero r xs p h = absurd (omega arith)
cut_none due (suc q) r xs p h = put_none (r.size - suc q) (omega arith)
  where
    put_none : (n : ℕ) → n ≡ 0 → length (put due n r xs) ≡ length xs
    put_none zero e = refl
    put_none (suc n) e = absurd (omega arith)

-- a taker that has contracts left took a row away with each trade
pub take_fewer : (due : ℕ) (t : Taker) (rs : List Row) (n : ℕ) (j : List Trade) → Positive rs → 0 < (take due t n rs j).left → length (take due t n rs j).trades + length (take due t n rs j).rows ≤ length rs + length j
unfolding take
take_fewer due t [] n j p h = omega arith
take_fewer due t (r ∷ rs) n j p h =
    let q = amount t n r in
    let j' = note q (trade_with t q r) j in
    let f = take due t (n - q) rs j' in
    let far = take_fewer due t rs (n - q) j' p.1 h in
    let left = take_left due t rs (n - q) j' in
    decide (in_reach t r)
    (λ e.
    let all : q ≡ min n r.size = is e in
    let pos = p.0 in
    omega (arith, cut_none due q r f.rows (omega arith) (omega arith), length_note q (trade_with t q r) j))
    (λ e.
    let zero : q ≡ 0 = off e in
    omega (arith, cut_length due q r f.rows, note_none q (trade_with t q r) j zero))
  where
    is : in_reach t r ≡ true → amount t n r ≡ min n r.size
    is e = rw e

    off : in_reach t r ≡ false → amount t n r ≡ 0
    off e = rw e

settle_fewer : (due q : ℕ) (r : Row) (xs : List Row) → Has r xs → Distinct xs → 0 < q → r.size ≤ q → suc (length (settle due q r.number xs)) ≤ length xs
unfolding settle
settle_fewer due q r [] h u p l = absurd h
settle_fewer due q r (x ∷ xs) h u p l =
    cond_both (numbered r.number x) (cut due q x xs) (x ∷ settle due q r.number xs) (λ ys. suc (length ys) ≤ length (x ∷ xs))
    (λ e. omega (arith, cut_none due q x xs p (here h (eqb-true x.number r.number e))))
    (λ e. omega (arith, settle_fewer due q r xs (there h (eqb-false x.number r.number e)) u.1 p l))
  where
    here : Has r (x ∷ xs) → x.number ≡ r.number → x.size ≤ q
    here (inl s) n = subst (λ (y : Row). y.size ≤ q) s l
    here (inr s) n = absurd (u.0 (face r) (has_in r xs s) (sym n))

    there : Has r (x ∷ xs) → (x.number ≡ r.number → ⊥) → Has r xs
    there (inl s) n = absurd (n (ap (λ (y : Row). y.number) (sym s)))
    there (inr s) n = s

-- a held order that is served takes a row away with each trade, its own with the last one if it is filled
pub serve_fewer : (xs : List Row) → Positive xs → Distinct xs → (due : ℕ) (r : Row) (c : ℕ) → Has r xs → (let f = take due (taker_of r c) r.size xs [] in length f.trades + length (settle due (r.size - f.left) r.number f.rows) ≤ length xs)
serve_fewer xs pos u due r c h =
    let t = taker_of r c in
    let f = take due t r.size xs [] in
    decide (ltb 0 f.left)
    (λ e. omega (arith, take_fewer due t xs r.size [] pos (leb-true 1 f.left e), length_settle due (r.size - f.left) r.number f.rows))
    (λ e.
    let z = leb-false 1 f.left e in
    let p = has_positive r xs h pos in
    omega (arith, take_few due t r.size xs, settle_fewer due (r.size - f.left) r f.rows (take_has due t xs r.size [] r (not_opposite r.side) h) (take_distinct due t xs r.size [] u) (omega arith) (omega arith)))

-- ---- what a journal notes

pub trades_noted : (ts : List Trade) (j : List Event) → trades_of (noting ts j) ≡ trades_of j ++ reverse ts
trades_noted [] j = sym (append-nil (trades_of j))
trades_noted (t ∷ ts) j =
    ap (λ (ys : List Trade). ys ++ (t ∷ [])) (trades_noted ts j)
    ∙ append_assoc (trades_of j) (reverse ts) (t ∷ [])
    ∙ ap (λ (ys : List Trade). trades_of j ++ ys) (sym (reverse-cons t ts))

pub withdrawals_noted : (ts : List Trade) (j : List Event) → withdrawals_of (noting ts j) ≡ withdrawals_of j
withdrawals_noted [] j = refl
withdrawals_noted (t ∷ ts) j = withdrawals_noted ts j

pub reversed_length : (ts : List Trade) → length (reverse ts) ≡ length ts
reversed_length = length-reverse
