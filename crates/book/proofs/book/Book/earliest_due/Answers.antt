use Rattle.std.proofs.Common.{ap, ◌∙◌}
use Rattle.book.specs.Lists.{head}
use Rattle.book.specs.Books.{rows, dues}
use Rattle.book.specs.Dues.{due_list}
use Rattle.book.proofs.Ties.{same_from, head_earliest}
use Rattle.book.proofs.book.Book.earliest_due.Goals as goal

pub returns-clause-first : goal.returns-clause-first
returns-clause-first c =
    let b = c.args.self.now in
    c.first.ensures ∙ ap head (same_from (dues b) (due_list (rows b)) b.tied) ∙ head_earliest (rows b)
