use Rattle.std.proofs.Common.{◌-◌, length, take, drop, ap, arith, length-drop}
use Rattle.std.proofs.lemmas.List.{length-take-le}
use Rattle.wire.proofs.Fed.{read_on}
use Rattle.wire.proofs.feed.read_more.Goals as goal

pub returns-clause-bytes : goal.returns-clause-bytes
returns-clause-bytes g c =
    let count = c.in_ok-count.count in
    let more = c.read.new.buf in
    let bound = c.in_ok-count.ensures.bound in
    let b = c.args.buffer.now in
    let held = c.args.held in
    let rest = length-drop held b in
    let room = length-take-le (length b - held) (drop held b) (omega (arith, rest)) in (
      take count more,
      read_on held _ count b more (omega arith) bound.0,
      c.in_ok-count.ensures.bytes.0,
      λ none. c.in_ok-count.ensures.bytes.1 (omega (arith, bound.1, ap length none)) (omega (arith, room, rest, c.read.auto.buf)),
    )
