use Rattle.std.proofs.Common.{rules, tests}
use Rattle.std.proofs.lemmas.Iterator.{YieldsList-from_slice}
use Rattle.std.proofs.lemmas.Iterator.Search.{all_from_yields_List}
use Rattle.book.specs.Listings.{ranked}
use Rattle.book.specs.Rows.{agrees_instead}
use Rattle.book.proofs.resting.Rows.admits_instead.Goals as goal

pub returns : goal.returns
returns c = all_from_yields_List (agrees_instead c.args.row) _ _ _ c.all.ensures.ran (YieldsList-from_slice (ranked c.args.self.now) (cc)) (λ x b q k. search (rules, tests))
