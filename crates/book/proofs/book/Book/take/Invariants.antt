use Rattle.book.specs.Books.{rows}
use Rattle.book.proofs.Takes.{Underway}
use Rattle.book.proofs.book.Book.take.Given as goal

abbrev pub invariant-loop-left : goal.invariant-loop-left
invariant-loop-left l = Underway l.due l.taker l.size (rows l.initial.self) l.initial.trades l.left (rows l.self) l.trades

abbrev pub decreases-loop-left : goal.decreases-loop-left
decreases-loop-left l = l.left
