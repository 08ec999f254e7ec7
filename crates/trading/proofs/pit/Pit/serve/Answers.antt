use Rattle.std.proofs.Common.{sym, arith}
use Rattle.trading.proofs.Served.{serving_starts, serving_ends, serving_next, serving_number, serving_at}
use Rattle.trading.proofs.pit.Pit.serve.Goals as goal

pub loop-row-init : goal.loop-row-init
loop-row-init c = serving_starts c.args.due c.args.series _ _

pub serve_row-requires : goal.serve_row-requires
serve_row-requires c = record { rests = serving_at _ _ c.loop-row.invariant c.in-Some.row (sym c.in-Some.ensures) }

pub overflow_add-from : goal.overflow_add-from
overflow_add-from c = omega (arith, serving_number _ _ c.loop-row.invariant c.in-Some.row (sym c.in-Some.ensures))

pub loop-row-smaller : goal.loop-row-smaller
loop-row-smaller c = omega (arith, serving_number _ _ c.loop-row.invariant c.in-Some.row (sym c.in-Some.ensures))

pub loop-row-preserved : goal.loop-row-preserved
loop-row-preserved c = serving_next _ _ c.loop-row.invariant c.in-Some.row (sym c.in-Some.ensures) c.serve_row.ensures

pub returns : goal.returns
returns c = serving_ends _ _ c.loop-row.invariant (sym c.in_default.ensures)
