use Rattle.std.proofs.Common.{◌≡◌, ◌<◌, [], None, length, take}
use Rattle.wire.specs.Splitting.{newline_at}
use Rattle.wire.proofs.Fed.{Fed}
use Rattle.wire.proofs.feed.answer_blocks.Given as goal

abbrev pub invariant-loop : goal.invariant-loop
invariant-loop g l = record {
  held : l.held < 80;
  buffer : length l.buffer ≡ 65536;
  out : l.out.items ≡ [];
  none : newline_at (take l.held l.buffer) ≡ None;
  fed : Fed g.A.Answerer.answers l.initial.answerer l.answerer l.splitter.passing (take l.held l.buffer) l.counter (g.R.Read.remaining l.initial.from) (g.R.Read.remaining l.from) (g.W.Write.contents l.initial.to) (g.W.Write.contents l.to);
}
