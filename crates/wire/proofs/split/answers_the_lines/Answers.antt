use Rattle.wire.proofs.Cutting.{answers_the_lines}
use Rattle.wire.proofs.split.answers_the_lines.Goals as goal

pub returns : goal.returns
returns c = answers_the_lines
