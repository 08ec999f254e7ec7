-- How much room a market needs: what the book and the rolls hold is enough.
use Rattle.std.specs.Prelude.{ℕ, ◌≤◌, List, length}
use Rattle.values.specs.declared.call.Call.{Call}
use Rattle.values.specs.declared.reference.Reference.{Reference}
use Rattle.screens.specs.Screens.{Lawful}
use Rattle.trading.specs.Journals.{trades_of, withdrawals_of}
use Rattle.market.specs.States.{Making, State, Room}
use Rattle.market.specs.Calls.{step}
use Rattle.laws.specs.Runs.{Asked, run}

pub record Roomy (m : Making) (st : State) : Type 0 where
  -- the book has at most 256 rows
  pub rows : length st.rows ≤ 256
  -- whatever is called next adds at most 256 trades
  pub trades : (room : Room) (c : Call) → length (trades_of (step m st room c).journal) ≤ 256
  -- and, in a market of at most 64 series, at most 128 withdrawals
  pub withdrawals : length m.series ≤ 64 → (room : Room) (c : Call) → length (withdrawals_of (step m st room c).journal) ≤ 128

abbrev pub EveryRunRoomy : Type 0
EveryRunRoomy = (m : Making) (refs : ℕ → Reference) → Lawful m.orders → Lawful m.quotes → (asked : List Asked) → Roomy m (run m refs asked).state
