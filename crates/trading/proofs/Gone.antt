-- What a withdrawal leaves.
use Rattle.std.proofs.Common.{◌≡◌, ℕ, zero, suc, ◌<◌, ◌≤◌, Bool, false, ◌∷◌, Some, None, Option, sym, refl, ap, ◌∙◌, ⊎_elim, arith}
use Rattle.std.proofs.lemmas.Bool.{cond_both, cases_eq}
use Rattle.book.specs.declared.row.Row.{Row}
use Rattle.book.specs.Rows.{without, row_of}
use Rattle.trading.specs.Desks.{Desk, highest, each_number, withdrawn, pull_found, pull_one, pull}
use Rattle.trading.proofs.Faces.{Face, face, In, Within, without_in, row_of_some, row_of_none, Distinct, without_distinct, unique}
use Rattle.trading.specs.Doing.{count}
use Rattle.trading.proofs.Resting.{highest_in}
use Rattle.trading.proofs.Pulled.{count_without, pulled_within}
use Rattle.trading.proofs.Steps.{pulled_keeps, each_pulled_keeps, pull_keeps}

module _ (p : Row → Bool) where
  pub pull_in : (d : Desk) → Within (pull p d).rows d.rows
  unfolding pull
  pull_in d = pulled_within p (highest d.rows) d

  -- no test is met by more rows than before
  pub pull_count : (q : Row → Bool) (d : Desk) → count q (pull p d).rows ≤ count q d.rows
  pull_count q d = pull_keeps (λ x. count q x.rows ≤ count q d.rows) p (λ r x h. omega (arith, count_without q r.number x.rows)) d (omega arith)

  each_distinct : (n : ℕ) (d : Desk) → Distinct d.rows → Distinct (each_number n (pull_one p) d).rows
  each_distinct = each_pulled_keeps (λ x. Distinct x.rows) p (λ r x u. without_distinct r.number x.rows u)

  -- a test that looks at the face alone
  module _ (t : Face → Bool) (same : (r : Row) → p r ≡ t (face r)) where
    found_gone : (n : ℕ) (d : Desk) → Distinct d.rows → (o : Option Row) → row_of n d.rows ≡ o → (f : Face) → In f (pull_found p o d).rows → f.number ≡ n → t f ≡ false
    found_gone n d u None e f i z = absurd (row_of_none n d.rows e f i z)
    found_gone n d u (Some r) e f i z =
        let at = row_of_some n d.rows r e in
        cond_both (p r) (record { rows = without r.number d.rows; journal = withdrawn r ∷ d.journal }) d (λ x. In f x.rows → t f ≡ false)
        (λ b h. absurd ((without_in r.number d.rows f h).1 (z ∙ sym at.1)))
        (λ b h. ap t (unique d.rows u f (face r) h at.0 (z ∙ sym at.1)) ∙ sym (same r) ∙ b)
        i

    each_gone : (n : ℕ) (d : Desk) → Distinct d.rows → (f : Face) → In f (each_number n (pull_one p) d).rows → (0 < f.number) × (f.number ≤ n) → t f ≡ false
    unfolding each_number pull_one
    each_gone zero d u f i b = absurd (omega arith)
    each_gone (suc n) d u f i b =
        let d' = each_number n (pull_one p) d in
        ⊎_elim
        (λ e. found_gone (suc n) d' (each_distinct n d u) (row_of (suc n) d'.rows) refl f i e)
        (λ e. each_gone n d u f (pulled_keeps (λ x. Within x.rows d'.rows) p (λ r x h g j. h g (without_in r.number x.rows g j).0) (row_of (suc n) d'.rows) d' (λ g j. j) f i) (b.0, omega arith))
        (cases_eq f.number (suc n))

    -- no row that p names is left
    pub pull_gone : (d : Desk) → Distinct d.rows → (f : Face) → In f (pull p d).rows → 0 < f.number → t f ≡ false
    unfolding pull
    pull_gone d u f i b = each_gone (highest d.rows) d u f i (b, highest_in d.rows f (pulled_within p (highest d.rows) d f i))
