-- The journal of a call: what befell the rows, the newest event first.
use Rattle.std.specs.Prelude.{ℕ, List, [], ◌∷◌, ◌++◌, map}
use Rattle.book.specs.declared.row.Trade.{Trade}
use Rattle.book.specs.declared.row.Withdrawal.{Withdrawal}

-- a display price is given (Shown) or moved (Moved), a trade is made, a row is withdrawn
pub data Event : Type 0 where
  Shown Moved : (number price : ℕ) → Event
  Traded : Trade → Event
  Withdrawn : Withdrawal → Event

-- the trades of a journal, the oldest first: the rows that a roll of trades gains
abbrev pub trades_of : List Event → List Trade
trades_of [] = []
trades_of (Shown n p ∷ j) = trades_of j
trades_of (Moved n p ∷ j) = trades_of j
trades_of (Traded t ∷ j) = trades_of j ++ (t ∷ [])
trades_of (Withdrawn w ∷ j) = trades_of j

-- the withdrawals of a journal, the oldest first
abbrev pub withdrawals_of : List Event → List Withdrawal
withdrawals_of [] = []
withdrawals_of (Shown n p ∷ j) = withdrawals_of j
withdrawals_of (Moved n p ∷ j) = withdrawals_of j
withdrawals_of (Traded t ∷ j) = withdrawals_of j
withdrawals_of (Withdrawn w ∷ j) = withdrawals_of j ++ (w ∷ [])

-- trades, the newest first, noted after the journal so far
abbrev pub noting : List Trade → List Event → List Event
noting ts j = map Traded ts ++ j
