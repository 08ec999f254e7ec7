use Rattle.std.proofs.Common.{◌+◌, ◌-◌}
use Rattle.trading.specs.Desks.{highest}
use Rattle.trading.specs.Pits.{rows_in}
use Rattle.trading.proofs.Served.{Serving}
use Rattle.trading.proofs.pit.Pit.serve.Given as goal

-- the held orders numbered below `from` have been served
abbrev pub invariant-loop-row : goal.invariant-loop-row
invariant-loop-row l = Serving l.due l.series l.initial.self.book l.self.book l.initial.self.trades l.self.trades l.from

abbrev pub decreases-loop-row : goal.decreases-loop-row
decreases-loop-row l = highest (rows_in l.initial.self) + 2 - l.from
