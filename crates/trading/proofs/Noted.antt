-- Which operations note trades, and which withdrawals.
use Rattle.std.proofs.Common.{◌≡◌, ℕ, zero, suc, Bool, List, [], ◌++◌, reverse, length, Option, sym, refl, ap, ◌∙◌, append_assoc}
use Rattle.collars.specs.declared.pricing.Pricing.{Pricing}
use Rattle.collars.specs.declared.pricing.Pricing.TheVariants.{AtLimit, Wide, Narrow}
use Rattle.collars.specs.Pricings.{reach_of}
use Rattle.book.specs.declared.row.Row.{Row}
use Rattle.book.specs.declared.row.Trade.{Trade}
use Rattle.book.specs.Taking.{take}
use Rattle.trading.specs.declared.ticket.Ticket.{Ticket}
use Rattle.trading.specs.Journals.{Event, trades_of, withdrawals_of, noting}
use Rattle.trading.specs.Desks.{Desk, taker_of, serve_row, serve, pull, move_on, turn, turns, advance, taker, last_price, show_first, rest_rows, rest_journal, rest, enter}
use Rattle.trading.specs.Doing.{desk}
use Rattle.trading.proofs.Volumes.{trades_noted, withdrawals_noted}
use Rattle.trading.proofs.Steps.{serve_keeps, pull_keeps, turn_keeps, turns_keep}
use Rattle.trading.proofs.Served.{serve_adds}

-- ---- serving, moving and entering withdraw nothing

abbrev Same : (Desk → Desk) → Type 0
Same f = (d : Desk) → withdrawals_of (f d).journal ≡ withdrawals_of d.journal

pub serve_same : (due s : ℕ) → Same (serve due s)
unfolding serve_row
serve_same due s d =
    serve_keeps (λ x. withdrawals_of x.journal ≡ withdrawals_of d.journal) due s
    (λ r c x h. withdrawals_noted (take due (taker_of r c) r.size x.rows []).trades x.journal ∙ h)
    d refl

turn_same : (k : ℕ) → Same (turn k)
unfolding move_on
turn_same k d = turn_keeps (λ x. withdrawals_of x.journal ≡ withdrawals_of d.journal) k d (λ moment n r c m at how. serve_same _ r.series (move_on r c moment d)) refl

turns_same : (n k : ℕ) → Same (turns n k)
turns_same n k d = turns_keep (λ x. withdrawals_of x.journal ≡ withdrawals_of d.journal) k (λ x h. turn_same k x ∙ h) n d refl

pub advance_same : (k : ℕ) → Same (advance k)
unfolding advance
advance_same k d = turns_same (length d.rows) k d

pub first_same : (t : Ticket) (p : Pricing) (j : List Event) → (withdrawals_of (show_first t p j) ≡ withdrawals_of j) × (trades_of (show_first t p j) ≡ trades_of j)
first_same t (AtLimit limit) j = (refl, refl)
first_same t (Wide display reach c) j = (refl, refl)
first_same t (Narrow untraded reach c) j = (refl, refl)

pub rest_same : (t : Ticket) (p : Pricing) (last : Option ℕ) (n : ℕ) (j : List Event) → (withdrawals_of (rest_journal t p last n j) ≡ withdrawals_of j) × (trades_of (rest_journal t p last n j) ≡ trades_of j)
rest_same t p last zero j = (refl, refl)
rest_same t (AtLimit limit) last (suc n) j = (refl, refl)
rest_same t (Wide display reach c) last (suc n) j = (refl, refl)
rest_same t (Narrow untraded reach c) last (suc n) j = (refl, refl)

pub enter_same : (due : ℕ) (t : Ticket) (p : Pricing) → Same (enter due t p)
unfolding enter rest
enter_same due t p d =
    let f = take due (taker t (reach_of p)) t.size d.rows [] in
    serve_same due t.series _
    ∙ (rest_same t p (last_price f.trades) f.left (noting f.trades (show_first t p d.journal))).0
    ∙ withdrawals_noted f.trades (show_first t p d.journal)
    ∙ (first_same t p d.journal).0

-- entering goes by the rows alone, and notes its trades after the journal so far
pub enter_adds : (due : ℕ) (t : Ticket) (p : Pricing) (d : Desk) → ((enter due t p d).rows ≡ (enter due t p (desk d.rows)).rows) × (trades_of (enter due t p d).journal ≡ trades_of d.journal ++ trades_of (enter due t p (desk d.rows)).journal)
unfolding enter rest
enter_adds due t p d =
    let f = take due (taker t (reach_of p)) t.size d.rows [] in
    let x : Desk = record { rows = rest_rows due t p (last_price f.trades) f.rows f.left; journal = rest_journal t p (last_price f.trades) f.left (noting f.trades (show_first t p d.journal)) } in
    let y : Desk = record { rows = rest_rows due t p (last_price f.trades) f.rows f.left; journal = rest_journal t p (last_price f.trades) f.left (noting f.trades (show_first t p [])) } in
    let a = serve_adds due t.series x in
    let b = serve_adds due t.series y in
    let tx : trades_of x.journal ≡ trades_of d.journal ++ reverse f.trades = (rest_same t p (last_price f.trades) f.left _).1 ∙ trades_noted f.trades (show_first t p d.journal) ∙ ap (λ (ts : List Trade). ts ++ reverse f.trades) (first_same t p d.journal).1 in
    let ty : trades_of y.journal ≡ reverse f.trades = (rest_same t p (last_price f.trades) f.left _).1 ∙ trades_noted f.trades (show_first t p []) ∙ ap (λ (ts : List Trade). ts ++ reverse f.trades) (first_same t p []).1 in
    let tail = trades_of (serve due t.series (desk x.rows)).journal in (
      a.0 ∙ sym b.0,
      a.1
          ∙ ap (λ (ts : List Trade). ts ++ tail) tx
          ∙ append_assoc (trades_of d.journal) (reverse f.trades) tail
          ∙ ap (λ (ts : List Trade). trades_of d.journal ++ ts) (sym (b.1 ∙ ap (λ (ts : List Trade). ts ++ tail) ty)),
    )

-- ---- withdrawing trades nothing

pub pull_same : (p : Row → Bool) (d : Desk) → trades_of (pull p d).journal ≡ trades_of d.journal
pull_same p d = pull_keeps (λ x. trades_of x.journal ≡ trades_of d.journal) p (λ r x h. h) d refl
