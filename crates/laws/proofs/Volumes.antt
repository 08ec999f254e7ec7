-- How many rows and trades there can be.
use Rattle.std.proofs.Common.{◌≡◌, ℕ, zero, suc, ◌+◌, ◌-◌, ◌≤◌, min, Bool, true, false, cond, not, ltb, List, [], ◌∷◌, length, Some, sym, refl, ap, ◌∙◌, inl, inr, arith, length-append}
use Rattle.std.proofs.lemmas.Bool.{ltb-true, ltb-false, eq-eqb, cond_both}
use Rattle.collars.specs.declared.pricing.Pricing.{Pricing}
use Rattle.collars.specs.declared.pricing.Pricing.TheVariants.{AtLimit, Wide, Narrow}
use Rattle.collars.specs.Pricings.{reach_of, display_of as restsAt}
use Rattle.book.specs.declared.row.Row.{Row}
use Rattle.book.specs.declared.row.Taker.{Taker}
use Rattle.book.specs.declared.row.Trade.{Trade}
use Rattle.book.specs.Lists.{lacking}
use Rattle.book.specs.Rows.{precedes, numbered, insert, without, put, cut, row_of, moved_to}
use Rattle.book.specs.Taking.{amount, note, Fill, take, Has}
use Rattle.book.specs.Trades.{trade_with}
use Rattle.book.proofs.Keeps.{length_lacking, length_placed}
use Rattle.book.proofs.Takes.{take_few}
use Rattle.trading.specs.declared.ticket.Ticket.{Ticket}
use Rattle.trading.specs.Journals.{Event, trades_of, noting}
use Rattle.trading.specs.Desks.{Desk, taker_of, serve_row, serve, pull, second_after, move_on, advance, taker, last_price, row_for, show_first, show_last, rest, enter, lapse}
use Rattle.trading.proofs.Sides.{decide}
use Rattle.trading.proofs.Faces.{row_of_has}
use Rattle.trading.proofs.Resting.{Sane, Rested, serve_row_sane, serve_rested, onwards, move_on_sane, move_on_others}
use Rattle.trading.proofs.Volumes.{take_fewer, serve_fewer, trades_noted, reversed_length}
use Rattle.trading.specs.Doing.{count}
use Rattle.laws.proofs.Keeping.{serve_keeps, pull_keeps, advance_keeps}
use Rattle.laws.proofs.Enters.{balanced}

pub noted_length : (ts : List Trade) (j : List Event) → length (trades_of (noting ts j)) ≡ length (trades_of j) + length ts
noted_length ts j = ap length (trades_noted ts j) ∙ length-append (trades_of j) _ ∙ ap (λ (n : ℕ). length (trades_of j) + n) (reversed_length ts)

-- the trades noted so far, and the rows
abbrev pub volume : Desk → ℕ
volume d = length (trades_of d.journal) + length d.rows

pub insert_length : (x : Row) (xs : List Row) → length (insert x xs) ≡ suc (length xs)
insert_length x xs = length_placed (precedes x) x xs

pub without_length : (n : ℕ) (xs : List Row) → length (without n xs) ≤ length xs
without_length n xs = length_lacking (numbered n) xs

pub without_less : (r : Row) (xs : List Row) → Has r xs → suc (length (without r.number xs)) ≤ length xs
unfolding lacking
without_less r [] h = absurd h
without_less r (x ∷ xs) (inl e) =
    let n : numbered r.number x ≡ true = eq-eqb x.number r.number (ap (λ (y : Row). y.number) (sym e)) in
    rw n (omega (arith, without_length r.number xs))
without_less r (x ∷ xs) (inr h) = cond_both (numbered r.number x) (without r.number xs) (x ∷ without r.number xs) (λ l. suc (length l) ≤ suc (length xs)) (λ e. omega (arith, without_less r xs h)) (λ e. omega (arith, without_less r xs h))

-- a taker trades with each row at most once
note_length : (q : ℕ) (e : Trade) (j : List Trade) → length (note q e j) ≤ suc (length j)
note_length zero e j = omega arith
note_length (suc q) e j = omega arith

cut_length : (due q : ℕ) (r : Row) (xs : List Row) → length (cut due q r xs) ≤ suc (length xs)
cut_length due zero r xs = omega arith
cut_length due (suc q) r xs = put_length (r.size - suc q)
  where
    put_length : (n : ℕ) → length (put due n r xs) ≤ suc (length xs)
    put_length zero = omega arith
    put_length (suc n) = omega arith

pub take_trades : (due : ℕ) (t : Taker) (rs : List Row) (n : ℕ) (j : List Trade) → length (take due t n rs j).trades ≤ length j + length rs
unfolding take
take_trades due t [] n j = omega arith
take_trades due t (r ∷ rs) n j = let q = amount t n r in omega (arith, note_length q (trade_with t q r) j, take_trades due t rs (n - q) (note q (trade_with t q r) j))

pub take_rows : (due : ℕ) (t : Taker) (rs : List Row) (n : ℕ) (j : List Trade) → length (take due t n rs j).rows ≤ length rs
unfolding take
take_rows due t [] n j = omega arith
take_rows due t (r ∷ rs) n j = let q = amount t n r in omega (arith, cut_length due q r (take due t (n - q) rs (note q (trade_with t q r) j)).rows, take_rows due t rs (n - q) (note q (trade_with t q r) j))

-- ---- each trade but one takes a row away

serve_row_volume : {top : ℕ} (d : Desk) → Sane top d.rows → (due : ℕ) (r : Row) (c : ℕ) → Has r d.rows → volume (serve_row due r c d) ≤ volume d
unfolding serve_row
serve_row_volume d ok due r c has = omega (arith, serve_fewer d.rows ok.positive ok.distinct due r c has, noted_length (take due (taker_of r c) r.size d.rows []).trades d.journal)

pub serve_volume : {top : ℕ} (due s : ℕ) (d : Desk) → Sane top d.rows → volume (serve due s d) ≤ volume d
serve_volume {top} due s d ok =
    (serve_keeps (λ x. Sane top x.rows × (volume x ≤ volume d)) due s
    (λ x r c m has how p. (serve_row_sane x p.0 due r c m has how, omega (arith, serve_row_volume x p.0 due r c has, p.1)))
    d (ok, omega arith)).1

move_on_volume : {top : ℕ} (d : Desk) → Rested top d.rows → (r : Row) (c m : ℕ) → row_of r.number d.rows ≡ Some r → volume (move_on r c m d) ≤ volume d
unfolding move_on
move_on_volume d ok r c m at =
    let x = moved_to (onwards r c) (second_after m) r in
    rw at (omega (arith, insert_length x (without r.number d.rows), without_less r d.rows (row_of_has r.number d.rows r at)))

pub advance_volume : {top : ℕ} (k : ℕ) (d : Desk) → Rested top d.rows → volume (advance k d) ≤ volume d
advance_volume {top} k d ok =
    (advance_keeps (λ x. Rested top x.rows × (volume x ≤ volume d)) k (λ x p. p.0.0.distinct)
    (λ x r c m at how due p.
    let sane = move_on_sane x p.0 r c m m at how in
    (serve_rested (move_on r c m x) (second_after k) r.series sane (move_on_others x p.0 r c m m at how), omega (arith, serve_volume (second_after k) r.series (move_on r c m x) sane, move_on_volume x p.0 r c m at, p.1)))
    d (ok, omega arith)).1

-- ---- an order or quote enters

firstly : (t : Ticket) (p : Pricing) (j : List Event) → trades_of (show_first t p j) ≡ trades_of j
firstly t (AtLimit l) j = refl
firstly t (Wide x reach c) j = refl
firstly t (Narrow x reach c) j = refl

lastly : (t : Ticket) (p : Pricing) (s : ℕ) (j : List Event) → trades_of (show_last t p s j) ≡ trades_of j
lastly t (AtLimit l) s j = refl
lastly t (Wide x reach c) s j = refl
lastly t (Narrow x reach c) s j = refl

rest_volume : (due : ℕ) (t : Ticket) (p : Pricing) (f : Fill) (n : ℕ) (j : List Event) → volume (rest due t p f n j) ≡ length (trades_of j) + length f.rows + min n 1
unfolding rest
rest_volume due t p f zero j = omega arith
rest_volume due t p f (suc n) j =
    let at = restsAt p (last_price f.trades) in
    let same : length (trades_of (show_last t p at j)) ≡ length (trades_of j) = ap length (lastly t p at j) in
    omega (arith, insert_length (row_for due t p at (suc n)) f.rows)

-- it brings one row at most
pub enter_volume : {top : ℕ} (d : Desk) → Rested top d.rows → (due : ℕ) (t : Ticket) (p : Pricing) (more : ℕ) → Sane more (balanced due t p d).rows → volume (enter due t p d) ≤ suc (volume d)
unfolding enter
enter_volume d ok due t p more sane =
    let who = taker t (reach_of p) in
    let f = take due who t.size d.rows [] in
    let j = noting f.trades (show_first t p d.journal) in
    let first : length (trades_of (show_first t p d.journal)) ≡ length (trades_of d.journal) = ap length (firstly t p d.journal) in
    let few : length f.trades + length f.rows + min f.left 1 ≤ length d.rows + 1 = decide (ltb 0 f.left)
    (λ e. let l = ltb-true 0 f.left e in omega (arith, take_fewer due who d.rows t.size [] ok.0.positive l))
    (λ e. let l = ltb-false 0 f.left e in omega (arith, take_few due who t.size d.rows)) in
    omega (arith, serve_volume due t.series (balanced due t p d) sane, rest_volume due t p f f.left j, noted_length f.trades (show_first t p d.journal))

pub lapse_trades : (i n : ℕ) (j : List Event) → trades_of (lapse i n j) ≡ trades_of j
lapse_trades i zero j = refl
lapse_trades i (suc n) j = refl

-- ---- withdrawals

-- where none passes, all of them do not
pub count_all : (p : Row → Bool) (xs : List Row) → ((r : Row) → Has r xs → p r ≡ false) → count (λ r. not (p r)) xs ≡ length xs
unfolding count
count_all p [] h = refl
count_all p (x ∷ xs) h =
    let one : cond {A = ℕ} (not (p x)) 1 0 ≡ 1 = rw (h x (inl refl)) in
    omega (arith, count_all p xs (λ r i. h r (inr i)))

pub pull_length : (p : Row → Bool) (d : Desk) → length (pull p d).rows ≤ length d.rows
pull_length p d = pull_keeps (λ x. length x.rows ≤ length d.rows) p (λ x r has z h. omega (arith, without_length r.number x.rows, h)) d (omega arith)
