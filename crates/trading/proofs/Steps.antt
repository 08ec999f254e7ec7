-- What holds of a desk and is kept by each step of an operation holds after the whole of it.
use Rattle.std.proofs.Common.{◌≡◌, ℕ, zero, suc, Bool, eqb, leb, ◌∷◌, Some, None, Option, refl}
use Rattle.std.proofs.lemmas.Bool.{cond_both}
use Rattle.book.specs.declared.row.Row.{Row}
use Rattle.book.specs.declared.row.Standing.{Standing}
use Rattle.book.specs.declared.row.Standing.TheVariants.{Plain, Held, Quote}
use Rattle.book.specs.declared.row.Due.{Due}
use Rattle.book.specs.Rows.{without, row_of}
use Rattle.book.specs.Dues.{earliest}
use Rattle.trading.specs.Desks.{Desk, highest, each_number, serve_row, serve_standing, serve_found, serve_one, serve, withdrawn, pull_found, pull_one, pull, second_after, move_on, move_standing, move_found, turn_found, turn, turns}

module _ (P : Desk → Type 0) where
  each_keeps : (f : ℕ → Desk → Desk) → ((n : ℕ) (d : Desk) → P d → P (f n d)) → (n : ℕ) (d : Desk) → P d → P (each_number n f d)
  unfolding each_number
  each_keeps f step zero d h = h
  each_keeps f step (suc n) d h = step (suc n) (each_number n f d) (each_keeps f step n d h)

  -- serving
  module _ (due s : ℕ) (step : (r : Row) (c : ℕ) (d : Desk) → P d → P (serve_row due r c d)) where
    standing_keeps : (x : Standing) (r : Row) (d : Desk) → P d → P (serve_standing due x r d)
    standing_keeps Plain r d h = h
    standing_keeps (Held c m) r d h = step r c d h
    standing_keeps (Quote k) r d h = h

    found_keeps : (o : Option Row) (d : Desk) → P d → P (serve_found due s o d)
    found_keeps None d h = h
    found_keeps (Some r) d h = cond_both (eqb r.series s) (serve_standing due r.standing r d) d P (λ e. standing_keeps r.standing r d h) (λ e. h)

    pub each_served_keeps : (n : ℕ) (d : Desk) → P d → P (each_number n (serve_one due s) d)
    unfolding serve_one
    each_served_keeps = each_keeps (serve_one due s) (λ n d. found_keeps (row_of n d.rows) d)

    pub serve_keeps : (d : Desk) → P d → P (serve due s d)
    unfolding serve
    serve_keeps d = each_served_keeps (highest d.rows) d

  -- withdrawing
  module _ (p : Row → Bool) (step : (r : Row) (d : Desk) → P d → P (record { rows = without r.number d.rows; journal = withdrawn r ∷ d.journal })) where
    pub pulled_keeps : (o : Option Row) (d : Desk) → P d → P (pull_found p o d)
    pulled_keeps None d h = h
    pulled_keeps (Some r) d h = cond_both (p r) (record { rows = without r.number d.rows; journal = withdrawn r ∷ d.journal }) d P (λ e. step r d h) (λ e. h)

    pub each_pulled_keeps : (n : ℕ) (d : Desk) → P d → P (each_number n (pull_one p) d)
    unfolding pull_one
    each_pulled_keeps = each_keeps (pull_one p) (λ n d. pulled_keeps (row_of n d.rows) d)

    pub pull_keeps : (d : Desk) → P d → P (pull p d)
    unfolding pull
    pull_keeps d = each_pulled_keeps (highest d.rows) d

  -- moving
  pub turn_keeps : (k : ℕ) (d : Desk) → ((moment n : ℕ) (r : Row) (c m : ℕ) → row_of n d.rows ≡ Some r → r.standing ≡ Held c m → P (serve (second_after k) r.series (move_on r c moment d))) → P d → P (turn k d)
  unfolding turn
  turn_keeps k d step h = by (earliest d.rows)
    where
      standing : (moment n : ℕ) (x : Standing) (r : Row) → row_of n d.rows ≡ Some r → r.standing ≡ x → P (move_standing k moment x r d)
      standing moment n Plain r at e = h
      standing moment n (Held c m) r at e = step moment n r c m at e
      standing moment n (Quote q) r at e = h

      found : (moment n : ℕ) (o : Option Row) → row_of n d.rows ≡ o → P (move_found k moment o d)
      found moment n None at = h
      found moment n (Some r) at = standing moment n r.standing r at refl

      by : (o : Option Due) → P (turn_found k o d)
      by None = h
      by (Some e) = cond_both (leb e.moment k) (move_found k e.moment (row_of e.number d.rows) d) d P (λ t. found e.moment e.number (row_of e.number d.rows) refl) (λ t. h)

  pub turns_keep : (k : ℕ) → ((d : Desk) → P d → P (turn k d)) → (n : ℕ) (d : Desk) → P d → P (turns n k d)
  unfolding turns
  turns_keep k step zero d h = h
  turns_keep k step (suc n) d h = turns_keep k step n (turn k d) (step d h)
