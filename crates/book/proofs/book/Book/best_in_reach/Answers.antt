use Rattle.std.proofs.Common.{◌≡◌, sym, ap, ◌∙◌, rules, tests}
use Rattle.values.specs.declared.side.Side.{Side}
use Rattle.book.specs.Rows.{best_of}
use Rattle.book.specs.Books.{rows}
use Rattle.book.proofs.Takes.{if_reached, reach_best}
use Rattle.book.proofs.book.Book.best_in_reach.Goals as goal

pub returns : goal.returns
returns c =
    let rs = rows c.args.self.now in
    let t = c.args.taker in
    let near : c.filter.result ≡ if_reached t c.best.result = search (rules, tests) in
    near ∙ sym (reach_best t rs c.best.result c.args.self.now.resting.sound.0 (sym (c.best.ensures ∙ ap (λ (s : Side). best_of t.series s rs) c.opposite.ensures)))
