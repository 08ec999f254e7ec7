use Rattle.std.proofs.Common.{◌≡◌, ◌+◌, ◌^◌, ◌<◌, ◌++◌, length, decimal}
use Rattle.wire_write.specs.Tails.{made}
use Rattle.wire_write.proofs.tail.Tail.put_digits.Given as goal

abbrev pub invariant-loop-rest : goal.invariant-loop-rest
invariant-loop-rest l = (decimal l.rest ++ made l.self ≡ decimal l.initial.rest ++ made l.initial.self) × (length (decimal l.initial.rest) + l.self.start ≡ length (decimal l.rest) + l.initial.self.start) × (l.rest < 10 ^ 9)

abbrev pub decreases-loop-rest : goal.decreases-loop-rest
decreases-loop-rest l = l.rest
