use Rattle.std.proofs.Common.{sym}
use Rattle.trading.proofs.Advanced.{advancing_starts, advancing_ends, advancing_due, advancing_next, advancing_less}
use Rattle.trading.proofs.pit.Pit.advance.Goals as goal

pub loop-entry-init : goal.loop-entry-init
loop-entry-init c = let r = c.requires.rest in (r.0, r.2, r.3, advancing_starts r.0 c.args.clock _ _ r.1 r.2 r.3)

pub turn-requires : goal.turn-requires
turn-requires c = let d = advancing_due c.loop-entry.invariant.3 c.in-Some.entry (sym c.in-Some.ensures) in record { clock = c.requires.clock; due = d.0; clear = d.1 }

pub loop-entry-smaller : goal.loop-entry-smaller
loop-entry-smaller c = let i = c.loop-entry.invariant in advancing_less i.3 c.in-Some.entry (sym c.in-Some.ensures) i.1 i.2 c.turn.ensures

pub loop-entry-preserved : goal.loop-entry-preserved
loop-entry-preserved c = let i = c.loop-entry.invariant in (i.0, i.1, i.2, advancing_next i.3 c.in-Some.entry (sym c.in-Some.ensures) i.1 i.2 c.turn.ensures)

pub returns : goal.returns
returns c = advancing_ends c.loop-entry.invariant.3 (sym c.in_default.ensures)
