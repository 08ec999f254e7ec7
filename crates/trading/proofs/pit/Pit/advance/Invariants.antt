use Rattle.std.proofs.Common.{ℕ, ◌+◌, ◌≤◌}
use Rattle.trading.specs.Pits.{rows_in}
use Rattle.trading.proofs.Advanced.{Advancing}
use Rattle.trading.proofs.Timings.{due_count}
use Rattle.trading.proofs.pit.Pit.advance.Given as goal

-- the turns so far were made, and enough are left
abbrev pub invariant-loop-entry : goal.invariant-loop-entry
invariant-loop-entry l = (before : ℕ) × (before ≤ l.clock) × (l.clock ≤ before + 1000) × Advancing before l.clock l.initial.self.book l.self.book l.initial.self.trades l.self.trades

abbrev pub decreases-loop-entry : goal.decreases-loop-entry
decreases-loop-entry l = due_count l.clock (rows_in l.self)
