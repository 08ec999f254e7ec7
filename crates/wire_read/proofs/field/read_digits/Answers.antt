use Rattle.std.proofs.Common.{ap, subst, ◌-◌, ◌∙◌, arith}
use Rattle.std.specs.Int.{IsInRange}
use Rattle.std.proofs.lemmas.List.{length-take-le, get_or-take}
use Rattle.wire_read.proofs.Counts.{one_more}
use Rattle.wire_read.proofs.field.read_digits.Goals as goal

pub loop-i-preserved : goal.loop-i-preserved
loop-i-preserved c =
    let long = length-take-le c.min-most.result c.args.bytes.now (omega arith) in
    let same = get_or-take c.min-most.result c.args.bytes.now c.loop-i.i 0 (omega (arith, long)) in
    one_more _ _ _ _ (omega (arith, long)) c.loop-i.invariant (subst (IsInRange 48 57) same c.if-not-is_ascii_digit.ensures.cases) (c.from.ensures ∙ ap (λ x. x - 48) same)
