use Rattle.std.proofs.Common.{leb, sym, ap, ◌∙◌}
use Rattle.trading.specs.Floors.{rows_on}
use Rattle.market.specs.Tests.{on_side}
use Rattle.market.proofs.Quotas.{few_rows, full_is}
use Rattle.market.proofs.market.Market.is_full_for.Goals as goal

pub returns-then-is_none : goal.returns-then-is_none
returns-then-is_none g c =
    let x = c.args.place.now in
    let floor = c.args.self.now.floor in
    ap (leb 256) c.len.ensures.count ∙ sym (rw c.if-is_none.ensures at (full_is (on_side x.maker x.series x.side) (rows_on floor) (few_rows floor) c.first.result (sym c.first.ensures)))

pub returns-else-is_none : goal.returns-else-is_none
returns-else-is_none g c =
    let x = c.args.place.now in
    let floor = c.args.self.now.floor in
    c.if-is_none.false ∙ sym (rw c.if-is_none.ensures at (full_is (on_side x.maker x.series x.side) (rows_on floor) (few_rows floor) c.first.result (sym c.first.ensures)))
