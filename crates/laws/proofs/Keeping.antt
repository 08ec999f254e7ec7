-- What serving, withdrawing and moving keep, by what each single step of them keeps.
use Rattle.std.proofs.Common.{◌≡◌, ℕ, zero, suc, ◌≤◌, Bool, true, eqb, leb, ◌∷◌, length, Some, None, Option, sym, refl, ◌∙◌, subst}
use Rattle.std.proofs.lemmas.Bool.{leb-true, cond_both}
use Rattle.book.specs.declared.row.Row.{Row}
use Rattle.book.specs.declared.row.Standing.{Standing}
use Rattle.book.specs.declared.row.Standing.TheVariants.{Plain, Held, Quote}
use Rattle.book.specs.declared.row.Due.{Due}
use Rattle.book.specs.Rows.{without, row_of}
use Rattle.book.specs.Dues.{earliest}
use Rattle.trading.specs.Desks.{Desk, highest, each_number, serve_row, serve_standing, serve_found, serve_one, serve, withdrawn, pull_found, pull_one, pull, second_after, move_on, move_standing, move_found, turn_found, turn, turns, advance}
use Rattle.trading.proofs.Faces.{Distinct, row_of_has}
use Rattle.book.specs.Taking.{Has}
use Rattle.trading.proofs.Timings.{earliest_some, row_of_of}

module _ (P : Desk → Type 0) where
  pub each_keeps : (f : ℕ → Desk → Desk) → ((n : ℕ) (d : Desk) → P d → P (f n d)) → (n : ℕ) (d : Desk) → P d → P (each_number n f d)
  unfolding each_number
  each_keeps f h zero d p = p
  each_keeps f h (suc n) d p = h (suc n) (each_number n f d) (each_keeps f h n d p)

  -- ---- serving

  module _ (due s : ℕ) (row : (d : Desk) (r : Row) (c m : ℕ) → Has r d.rows → r.standing ≡ Held c m → P d → P (serve_row due r c d)) where
    serve_standing_lem : (d : Desk) (r : Row) → Has r d.rows → (x : Standing) → r.standing ≡ x → P d → P (serve_standing due x r d)
    serve_standing_lem d r has Plain e p = p
    serve_standing_lem d r has (Held c m) e p = row d r c m has e p
    serve_standing_lem d r has (Quote k) e p = p

    serve_found_lem : (d : Desk) (n : ℕ) (o : Option Row) → row_of n d.rows ≡ o → P d → P (serve_found due s o d)
    serve_found_lem d n None e p = p
    serve_found_lem d n (Some r) e p = cond_both (eqb r.series s) (serve_standing due r.standing r d) d P (λ z. serve_standing_lem d r (row_of_has n d.rows r e) r.standing refl p) (λ z. p)

    serve_one_lem : (n : ℕ) (d : Desk) → P d → P (serve_one due s n d)
    unfolding serve_one
    serve_one_lem n d p = serve_found_lem d n (row_of n d.rows) refl p

    pub serve_keeps : (d : Desk) → P d → P (serve due s d)
    unfolding serve
    serve_keeps d p = each_keeps (serve_one due s) serve_one_lem (highest d.rows) d p

  -- ---- withdrawing

  module _ (q : Row → Bool) (row : (d : Desk) (r : Row) → Has r d.rows → q r ≡ true → P d → P (record { rows = without r.number d.rows; journal = withdrawn r ∷ d.journal })) where
    pull_found_lem : (d : Desk) (n : ℕ) (o : Option Row) → row_of n d.rows ≡ o → P d → P (pull_found q o d)
    pull_found_lem d n None e p = p
    pull_found_lem d n (Some r) e p = cond_both (q r) (record { rows = without r.number d.rows; journal = withdrawn r ∷ d.journal }) d P (λ z. row d r (row_of_has n d.rows r e) z p) (λ z. p)

    pull_one_lem : (n : ℕ) (d : Desk) → P d → P (pull_one q n d)
    unfolding pull_one
    pull_one_lem n d p = pull_found_lem d n (row_of n d.rows) refl p

    pub pull_keeps : (d : Desk) → P d → P (pull q d)
    unfolding pull
    pull_keeps d p = each_keeps (pull_one q) pull_one_lem (highest d.rows) d p

  -- ---- the clock comes to the moment k

  module _ (k : ℕ) (distinct : (d : Desk) → P d → Distinct d.rows) (move : (d : Desk) (r : Row) (c m : ℕ) → row_of r.number d.rows ≡ Some r → r.standing ≡ Held c m → m ≤ k → P d → P (serve (second_after k) r.series (move_on r c m d))) where
    first_moves : (d : Desk) (e : Due) → earliest d.rows ≡ Some e → e.moment ≤ k → P d → P (move_found k e.moment (row_of e.number d.rows) d)
    first_moves d e w due p =
        let f = earliest_some d.rows e w in
        let r = f.row in
        let at : row_of r.number d.rows ≡ Some r = row_of_of r d.rows (distinct d p) f.there in
        let named : row_of e.number d.rows ≡ Some r = subst (λ (y : ℕ). row_of y d.rows ≡ Some r) f.named at in
        rw named (by r f.collar at r.standing refl f.how)
      where
        by : (r : Row) (c : ℕ) → row_of r.number d.rows ≡ Some r → (x : Standing) → r.standing ≡ x → r.standing ≡ Held c e.moment → P (move_standing k e.moment x r d)
        by r c at x is how = subst (λ (y : Standing). P (move_standing k e.moment y r d)) (sym how ∙ is) (move d r c e.moment at how due p)

    pub turn_keeps : (d : Desk) → P d → P (turn k d)
    unfolding turn
    turn_keeps d p = by (earliest d.rows) refl
      where
        by : (o : Option Due) → earliest d.rows ≡ o → P (turn_found k o d)
        by None e = p
        by (Some x) e = cond_both (leb x.moment k) (move_found k x.moment (row_of x.number d.rows) d) d P (λ z. first_moves d x e (leb-true x.moment k z) p) (λ z. p)

    pub turns_keeps : (n : ℕ) (d : Desk) → P d → P (turns n k d)
    unfolding turns
    turns_keeps zero d p = p
    turns_keeps (suc n) d p = turns_keeps n (turn k d) (turn_keeps d p)

    pub advance_keeps : (d : Desk) → P d → P (advance k d)
    unfolding advance
    advance_keeps d p = turns_keeps (length d.rows) d p
