-- Every row stays in its series: each operation keeps rows of one of 64 series.
use Rattle.std.proofs.Common.{◌≡◌, ℕ, zero, suc, ◌<◌, Bool, true, List, [], length, Some, None, Option, sym, refl, subst, ⊎_elim}
use Rattle.std.proofs.lemmas.Bool.{ltb-true, lt-ltb}
use Rattle.collars.specs.declared.pricing.Pricing.{Pricing}
use Rattle.collars.specs.Pricings.{reach_of, display_of}
use Rattle.book.specs.declared.row.Row.{Row}
use Rattle.book.specs.Lists.{every}
use Rattle.book.specs.Rows.{without, row_of, moved_to, moved_in}
use Rattle.book.specs.Taking.{Fill, take}
use Rattle.trading.specs.declared.ticket.Ticket.{Ticket}
use Rattle.trading.specs.Desks.{Desk, highest, pull, second_after, move_on, turn, turns, advance, taker, last_price, row_for, show_first, rest_rows, rest, enter, enter_now, serve}
use Rattle.trading.specs.Journals.{noting}
use Rattle.trading.specs.Doing.{desk}
use Rattle.trading.specs.Rests.{in_series}
use Rattle.trading.proofs.Faces.{Face, face, face_series, In, has_in, take_in, insert_in, without_in, row_of_has}
use Rattle.trading.proofs.Resting.{onwards, serve_within}
use Rattle.trading.proofs.Each.{every_has, every_from, in_has}
use Rattle.trading.proofs.Pulled.{pulled_within}
use Rattle.trading.proofs.Steps.{turn_keeps, turns_keep}

abbrev pub Placed : List Row → Type 0
Placed xs = (f : Face) → In f xs → f.series < 64

pub placed_from : (xs : List Row) → every in_series xs ≡ true → Placed xs
placed_from xs e f i = let h = in_has f xs i in subst (λ (n : ℕ). n < 64) (sym (face_series h.2)) (ltb-true h.0.series 64 (every_has in_series xs e h.0 h.1))

pub placed_back : (xs : List Row) → Placed xs → every in_series xs ≡ true
placed_back xs h = every_from in_series xs (λ r i. lt-ltb r.series 64 (h (face r) (has_in r xs i)))

pub pull_placed : (p : Row → Bool) (rs : List Row) → every in_series rs ≡ true → every in_series (pull p (desk rs)).rows ≡ true
unfolding pull
pull_placed p rs e = placed_back _ (λ f i. placed_from rs e f (pulled_within p (highest rs) (desk rs) f i))

move_placed : (r : Row) (c moment : ℕ) (d : Desk) → Placed d.rows → Placed (move_on r c moment d).rows
unfolding move_on
move_placed r c moment d h f i = by (row_of r.number d.rows) refl i
  where
    by : (o : Option Row) → row_of r.number d.rows ≡ o → In f (moved_in o (onwards r c) (second_after moment) d.rows) → f.series < 64
    by None e i = h f i
    by (Some q) e i =
        ⊎_elim
        (λ z. subst (λ (n : ℕ). n < 64) (sym (face_series z)) (h (face q) (has_in q d.rows (row_of_has r.number d.rows q e))))
        (λ z. h f (without_in q.number d.rows f z).0)
        (insert_in (moved_to (onwards r c) (second_after moment) q) (without q.number d.rows) f i)

turn_placed : (k : ℕ) (d : Desk) → Placed d.rows → Placed (turn k d).rows
turn_placed k d h = turn_keeps (λ x. Placed x.rows) k d (λ moment n r c m at how f i. move_placed r c moment d h f (serve_within (second_after k) r.series (move_on r c moment d) f i)) h

turns_placed : (n k : ℕ) (d : Desk) → Placed d.rows → Placed (turns n k d).rows
turns_placed n k = turns_keep (λ x. Placed x.rows) k (turn_placed k) n

pub advance_placed : (k : ℕ) (rs : List Row) → every in_series rs ≡ true → every in_series (advance k (desk rs)).rows ≡ true
unfolding advance
advance_placed k rs e = placed_back _ (turns_placed (length rs) k (desk rs) (placed_from rs e))

pub enter_placed : (due : ℕ) (t : Ticket) (p : Pricing) (rs : List Row) → t.series < 64 → every in_series rs ≡ true → every in_series (enter due t p (desk rs)).rows ≡ true
unfolding enter rest
enter_placed due t p rs s e =
    let f = take due (taker t (reach_of p)) t.size rs [] in
    let x : Desk = rest due t p f f.left (noting f.trades (show_first t p [])) in
    placed_back (serve due t.series x).rows (λ g i. by f.left f (λ x j. placed_from rs e x (take_in due (taker t (reach_of p)) rs t.size [] x j)) g (serve_within due t.series x g i))
  where
    by : (n : ℕ) (f : Fill) → Placed f.rows → Placed (rest_rows due t p (last_price f.trades) f.rows n)
    by zero f h g i = h g i
    by (suc n) f h g i = ⊎_elim (λ z. subst (λ (k : ℕ). k < 64) (sym (face_series z)) s) (λ z. h g z) (insert_in (row_for due t p (display_of p (last_price f.trades)) (suc n)) f.rows g i)

pub enter_now_placed : (due : ℕ) (t : Ticket) (rs : List Row) → every in_series rs ≡ true → every in_series (enter_now due t (desk rs)).rows ≡ true
unfolding enter_now
enter_now_placed due t rs e = placed_back _ (λ g i. placed_from rs e g (take_in due (taker t t.limit) rs t.size [] g i))
