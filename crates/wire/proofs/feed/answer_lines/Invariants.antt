use Rattle.std.proofs.Common.{length}
use Rattle.wire.proofs.Fed.{Ends, SoFar}
use Rattle.wire.proofs.feed.answer_lines.Given as goal

abbrev pub invariant-loop-line : goal.invariant-loop-line
invariant-loop-line g l = record {
  last : Ends l.rest l.block;
  far : SoFar g.A.Answerer.answers l.initial.answerer l.answerer l.initial.splitter.passing l.splitter.passing l.block l.rest l.initial.out.items l.out.items;
}

abbrev pub decreases-loop-line : goal.decreases-loop-line
decreases-loop-line g l = length l.rest
