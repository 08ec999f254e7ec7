-- The journal is the truth of the rolls and of the rows.
use Rattle.std.specs.Prelude.{◌≡◌, ℕ, List, [], ◌∷◌, ◌++◌, Some}
use Rattle.values.specs.declared.reference.Reference.{Reference}
use Rattle.screens.specs.Screens.{Lawful}
use Rattle.book.specs.declared.row.Row.{Row}
use Rattle.book.specs.declared.row.Trade.{Trade}
use Rattle.book.specs.declared.row.Withdrawal.{Withdrawal}
use Rattle.book.specs.Taking.{Has}
use Rattle.trading.specs.Journals.{trades_of, withdrawals_of}
use Rattle.market.specs.States.{Making}
use Rattle.laws.specs.Histories.{History, journal_of}
use Rattle.laws.specs.Admissions.{Party}
use Rattle.laws.specs.Displays.{display_of, Rests}
use Rattle.laws.specs.Balances.{resting_of}
use Rattle.laws.specs.Runs.{Asked, run}

-- the rows that the calls of a history added to the roll of trades, call after call
abbrev pub trade_rows : History → List Trade
trade_rows [] = []
trade_rows (e ∷ h) = trade_rows h ++ trades_of e.journal

-- and to the roll of withdrawals
abbrev pub withdrawal_rows : History → List Withdrawal
withdrawal_rows [] = []
withdrawal_rows (e ∷ h) = withdrawal_rows h ++ withdrawals_of e.journal

-- they are the journal's trades and withdrawals, in order
pub record RollsAreTrue (h : History) : Type 0 where
  pub trades : trades_of (journal_of h) ≡ trade_rows h
  pub withdrawals : withdrawals_of (journal_of h) ≡ withdrawal_rows h

-- the row r is the order or quote of its number, as the history has it
pub record TrueRow (r : Row) (h : History) : Type 0 where
  pub party : Party
  pub rests : Rests r.number party h
  pub series : r.series ≡ party.series
  pub side : r.side ≡ party.side
  pub limit : r.limit ≡ party.limit
  pub size : r.size ≡ resting_of r.number party h
  pub display : display_of r.number (journal_of h) ≡ Some r.display

pub record RowsAreTrue (rows : List Row) (h : History) : Type 0 where
  pub each : (r : Row) → Has r rows → TrueRow r h
  -- whatever rests has a row
  pub all : (n : ℕ) (x : Party) → Rests n x h → (r : Row) × Has r rows × (r.number ≡ n)

abbrev pub EveryRollTrue : Type 0
EveryRollTrue = (h : History) → RollsAreTrue h

abbrev pub EveryRunKeepsTrueRows : Type 0
EveryRunKeepsTrueRows = (m : Making) (refs : ℕ → Reference) → Lawful m.orders → Lawful m.quotes → (asked : List Asked) → RowsAreTrue (run m refs asked).state.rows (run m refs asked).history
