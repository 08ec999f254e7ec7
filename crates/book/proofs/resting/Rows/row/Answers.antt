use Rattle.std.proofs.Common.{rules, tests, ◌∙◌}
use Rattle.std.proofs.lemmas.Iterator.{YieldsList-from_slice}
use Rattle.std.proofs.lemmas.Iterator.Search.{find_from_yields_List}
use Rattle.book.specs.Listings.{ranked}
use Rattle.book.specs.Rows.{numbered}
use Rattle.book.proofs.Searches.{find_found}
use Rattle.book.proofs.resting.Rows.row.Goals as goal

pub returns : goal.returns
returns c =
    let rs = ranked c.args.self.now in
    c.copied.ensures
    ∙ find_from_yields_List (numbered c.args.number) _ _ _ c.find.ensures.ran (YieldsList-from_slice rs (cc)) (λ x b q k. search (rules, tests))
    ∙ find_found (numbered c.args.number) rs
