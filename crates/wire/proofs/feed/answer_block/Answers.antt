use Rattle.std.proofs.Common.{take, sym, subst}
use Rattle.wire.specs.Feeding.{AnswersBlock}
use Rattle.wire.proofs.Fed.{keeps_left}
use Rattle.wire.proofs.feed.answer_block.Goals as goal

pub returns-clause-answers : goal.returns-clause-answers
returns-clause-answers g c =
    let kept = keeps_left c.args.buffer.now c.keep_last.new.buffer c.args.end c.in_ok-left.left c.keep_last.result c.requires c.in_ok-left.ensures.left.0 c.keep_last.ensures.count c.keep_last.ensures.bytes in
    subst (λ rest. AnswersBlock g.A.Answerer.answers c.args.answerer.now c.answer_lines.new.answerer c.args.splitter.now.passing c.answer_lines.new.splitter.passing (take c.args.end c.args.buffer.now) rest c.args.out.now.items c.answer_lines.new.out.items) (sym kept) c.in_ok-left.ensures.answers
