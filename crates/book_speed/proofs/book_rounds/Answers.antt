use Rattle.std.proofs.Common.{List, sym, subst}
use Rattle.book.specs.Books.{rows}
use Rattle.book.specs.declared.row.Row.{Row}
use Rattle.book_speed.specs.Tame.{Tame}
use Rattle.book_speed.proofs.Agreeing.{tame_without}
use Rattle.book_speed.proofs.book_rounds.Goals as goal

pub add-next-requires-in-loop-clause-tame : goal.add-next-requires-in-loop-clause-tame
add-next-requires-in-loop-clause-tame c =
    subst (λ (rs : List Row). Tame c.loop.next rs) (sym c.withdraw.ensures.after) (tame_without c.loop.next _ (rows c.loop.book) c.loop.invariant)
