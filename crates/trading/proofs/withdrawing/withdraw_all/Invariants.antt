use Rattle.std.proofs.Common.{◌+◌, ◌-◌}
use Rattle.book.specs.Books.{rows}
use Rattle.trading.specs.Desks.{highest}
use Rattle.trading.proofs.Pulled.{Pulling}
use Rattle.trading.proofs.withdrawing.withdraw_all.Given as goal

-- the wanted rows numbered below `from` have been withdrawn
abbrev pub invariant-loop-row : goal.invariant-loop-row
invariant-loop-row g l = Pulling (g.W.Wanted.wants l.wanted) (rows l.initial.book) l.initial.withdrawals l.from (rows l.book) l.withdrawals

abbrev pub decreases-loop-row : goal.decreases-loop-row
decreases-loop-row g l = highest (rows l.initial.book) + 2 - l.from
