use Rattle.std.proofs.Common.{◌+◌, List, sym, subst}
use Rattle.book.specs.Books.{rows}
use Rattle.book.specs.declared.row.Row.{Row}
use Rattle.book_speed.specs.Tame.{Tame}
use Rattle.book_speed.proofs.Agreeing.{agree_all, tame_insert}
use Rattle.book_speed.proofs.add.Goals as goal

pub insert-requires-clause-fits : goal.insert-requires-clause-fits
insert-requires-clause-fits c = agree_all c.args.next c.drawn.result (rows c.args.book.now) c.drawn.ensures c.requires.tame

pub returns-then-next-lt4294967295 : goal.returns-then-next-lt4294967295
returns-then-next-lt4294967295 c =
    subst (λ (rs : List Row). Tame (c.args.next + 1) rs) (sym c.insert.ensures) (tame_insert c.args.next c.drawn.result (rows c.args.book.now) c.drawn.ensures c.requires.tame)
