use Rattle.std.proofs.Common.{sym, arith}
use Rattle.trading.proofs.Pulled.{pulling_starts, pulling_ends, pulling_next, pulling_number}
use Rattle.trading.proofs.withdrawing.withdraw_all.Goals as goal

pub loop-row-init : goal.loop-row-init
loop-row-init g c = pulling_starts (g.W.Wanted.wants c.args.wanted.now) _ _ c.requires.room

pub push-requires : goal.push-requires
push-requires g c = (pulling_number _ c.loop-row.invariant c.in-Some.row (sym c.in-Some.ensures)).2

pub overflow_add-from : goal.overflow_add-from
overflow_add-from g c = omega (arith, pulling_number _ c.loop-row.invariant c.in-Some.row (sym c.in-Some.ensures))

pub loop-row-smaller : goal.loop-row-smaller
loop-row-smaller g c = omega (arith, pulling_number _ c.loop-row.invariant c.in-Some.row (sym c.in-Some.ensures))

pub loop-row-preserved : goal.loop-row-preserved
loop-row-preserved g c = pulling_next _ c.loop-row.invariant c.in-Some.row (sym c.in-Some.ensures) c.loop-row.book.resting.sound c.withdraw.ensures.after c.withdrawal.ensures c.push.ensures

pub returns : goal.returns
returns g c = pulling_ends _ c.loop-row.invariant (sym c.in_default.ensures)
