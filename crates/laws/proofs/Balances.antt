-- What stands in the book rests by the history, and sizes add up.
use Rattle.std.proofs.Common.{◌≡◌, ℕ, ◌+◌, ◌-◌, false, Some, refl, ap, subst, arith}
use Rattle.values.specs.declared.reference.Reference.{Reference}
use Rattle.book.specs.declared.row.Row.{Row}
use Rattle.trading.proofs.Sides.{clash, decide}
use Rattle.trading.proofs.Faces.{face, has_in, has_positive}
use Rattle.book.specs.Taking.{Has}
use Rattle.market.specs.States.{Making, State}
use Rattle.laws.specs.Histories.{History, journal_of}
use Rattle.laws.specs.Admissions.{Party, party_of}
use Rattle.laws.specs.Displays.{traded_of, withdrawn_of, is_named, Rests}
use Rattle.laws.specs.Balances.{resting_of, EveryRunAddsUp}
use Rattle.laws.proofs.Words.{unnamed_withdrawn}
use Rattle.laws.proofs.Sizes.{size_in, size_lacks, has_size}
use Rattle.laws.proofs.Ledgers.{maker_of, size_of}
use Rattle.laws.proofs.Steps.{Kept}
use Rattle.laws.proofs.Runs.{run_kept, given}

module _ (m : Making) (refs : ℕ → Reference) {st : State} {h : History} (ok : Kept m refs st h) where
  pub row_party : (r : Row) → Has r st.rows → (x : Party) × Rests r.number x h × (x.series ≡ r.series) × (x.side ≡ r.side) × (x.limit ≡ r.limit) × (traded_of r.number (journal_of h) + r.size ≡ x.size)
  row_party r has =
      let i = has_in r st.rows has in
      let told = ok.settled.1 in
      let b = (told.facts (face r) i).brought in
      let x : Party = record { series = r.series; side = r.side; limit = r.limit; size = b.0; maker = maker_of (face r).role } in
      let w = told.weighs r.number (ok.settled.0.0.numbered (face r) i).1 in
      let z = unnamed_withdrawn r.number (journal_of h) (told.kept (face r) i) in
      let s = has_size r st.rows ok.settled.0.0.distinct has in
      let q : size_of (party_of r.number h) ≡ b.0 = ap size_of b.1 in
      let p = has_positive r st.rows has ok.settled.0.0.positive in
      (x, record { admitted = b.1; unfilled = omega arith; kept = told.kept (face r) i }, refl, refl, refl, omega arith)

  pub sizes_add_up : (n : ℕ) (x : Party) → party_of n h ≡ Some x → x.size ≡ traded_of n (journal_of h) + withdrawn_of n (journal_of h) + resting_of n x h
  sizes_add_up n x p =
      let w = ok.settled.1.weighs n (given m refs ok n x p) in
      let q : size_of (party_of n h) ≡ x.size = ap size_of p in
      decide (is_named n (journal_of h))
      (λ e.
      let z : resting_of n x h ≡ 0 = rw e in
      let g : size_in n st.rows ≡ 0 = size_lacks n st.rows (λ f i y. clash (is_named n (journal_of h)) e (subst (λ (k : ℕ). is_named k (journal_of h) ≡ false) y (ok.settled.1.kept f i))) in
      omega arith)
      (λ e.
      let z : resting_of n x h ≡ x.size - traded_of n (journal_of h) = rw e in
      let g = unnamed_withdrawn n (journal_of h) e in
      omega arith)

pub every_run_adds_up : EveryRunAddsUp
every_run_adds_up m refs lo lq asked = sizes_add_up m refs (run_kept m refs lo lq asked)
