use Rattle.wire_read.specs.Fields.{Number}
use Rattle.wire_read.proofs.field.read_digits.Given as goal

abbrev pub invariant-loop-i : goal.invariant-loop-i
invariant-loop-i l = Number l.bytes l.n l.i
