use Rattle.book.specs.Books.{rows}
use Rattle.book_speed.specs.Tame.{Tame}
use Rattle.book_speed.proofs.book_rounds.Given as goal

abbrev pub invariant-loop-place : goal.invariant-loop-place
invariant-loop-place l = Tame l.next (rows l.book)

abbrev pub invariant-loop : goal.invariant-loop
invariant-loop l = Tame l.next (rows l.book)
