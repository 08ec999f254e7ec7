-- The journal is the truth of the rolls and of the rows.
use Rattle.std.proofs.Common.{◌≡◌, ℕ, ◌-◌, List, [], ◌∷◌, ◌++◌, sym, refl, ap, ◌∙◌, append_assoc, append-nil, arith}
use Rattle.values.specs.declared.reference.Reference.{Reference}
use Rattle.book.specs.declared.row.Row.{Row}
use Rattle.book.specs.declared.row.Trade.{Trade}
use Rattle.book.specs.declared.row.Withdrawal.{Withdrawal}
use Rattle.book.specs.Taking.{Has}
use Rattle.trading.specs.Journals.{Event, Shown, Moved, Traded, Withdrawn, trades_of, withdrawals_of}
use Rattle.trading.proofs.Faces.{Face, face, has_in}
use Rattle.trading.proofs.Each.{in_has}
use Rattle.market.specs.States.{Making, State}
use Rattle.laws.specs.Histories.{History, journal_of}
use Rattle.laws.specs.Displays.{traded_of}
use Rattle.laws.specs.Balances.{resting_of}
use Rattle.laws.specs.Rolls.{trade_rows, withdrawal_rows, TrueRow, RowsAreTrue, EveryRollTrue, EveryRunKeepsTrueRows}
use Rattle.laws.proofs.Steps.{Kept}
use Rattle.laws.proofs.Runs.{run_kept, stands}
use Rattle.laws.proofs.Balances.{row_party}

pub trades_after : (j older : List Event) → trades_of (j ++ older) ≡ trades_of older ++ trades_of j
trades_after [] older = sym (append-nil (trades_of older))
trades_after (Shown n p ∷ j) older = trades_after j older
trades_after (Moved n p ∷ j) older = trades_after j older
trades_after (Traded t ∷ j) older = ap (λ (ys : List Trade). ys ++ (t ∷ [])) (trades_after j older) ∙ append_assoc (trades_of older) (trades_of j) (t ∷ [])
trades_after (Withdrawn w ∷ j) older = trades_after j older

pub withdrawals_after : (j older : List Event) → withdrawals_of (j ++ older) ≡ withdrawals_of older ++ withdrawals_of j
withdrawals_after [] older = sym (append-nil (withdrawals_of older))
withdrawals_after (Shown n p ∷ j) older = withdrawals_after j older
withdrawals_after (Moved n p ∷ j) older = withdrawals_after j older
withdrawals_after (Traded t ∷ j) older = withdrawals_after j older
withdrawals_after (Withdrawn w ∷ j) older = ap (λ (ys : List Withdrawal). ys ++ (w ∷ [])) (withdrawals_after j older) ∙ append_assoc (withdrawals_of older) (withdrawals_of j) (w ∷ [])

all_trades : (h : History) → trades_of (journal_of h) ≡ trade_rows h
unfolding journal_of
all_trades [] = refl
all_trades (e ∷ h) = trades_after e.journal (journal_of h) ∙ ap (λ (ys : List Trade). ys ++ trades_of e.journal) (all_trades h)

all_withdrawals : (h : History) → withdrawals_of (journal_of h) ≡ withdrawal_rows h
unfolding journal_of
all_withdrawals [] = refl
all_withdrawals (e ∷ h) = withdrawals_after e.journal (journal_of h) ∙ ap (λ (ys : List Withdrawal). ys ++ withdrawals_of e.journal) (all_withdrawals h)

pub every_roll_true : EveryRollTrue
every_roll_true h = record { trades = all_trades h; withdrawals = all_withdrawals h }

-- ---- the rows

module _ (m : Making) (refs : ℕ → Reference) {st : State} {h : History} (ok : Kept m refs st h) where
  true_row : (r : Row) → Has r st.rows → TrueRow r h
  true_row r has =
      let p = row_party m refs ok r has in
      let rest = p.1 in
      let z : resting_of r.number p.0 h ≡ p.0.size - traded_of r.number (journal_of h) = rw rest.kept in
      let s = p.5 in
      record {
        party = p.0;
        rests = rest;
        series = sym p.2;
        side = sym p.3;
        limit = sym p.4;
        size = omega arith;
        display = ok.settled.1.shown (face r) (has_in r st.rows has);
      }

  pub rows_are_true : RowsAreTrue st.rows h
  rows_are_true = record {
    each = true_row;
    all = λ n x r.
        let s = stands m refs ok n x r in
        let i = in_has s.at st.rows s.there in
        (i.0, i.1, sym (ap (λ (f : Face). f.number) i.2) ∙ s.numbered);
  }

pub every_run_keeps_true_rows : EveryRunKeepsTrueRows
every_run_keeps_true_rows m refs lo lq asked = rows_are_true m refs (run_kept m refs lo lq asked)
