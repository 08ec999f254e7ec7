use Rattle.laws.proofs.Refusals.{every_refusal_leaves_no_trace}
use Rattle.laws.proofs.every_refusal_leaves_no_trace.Goals as goal

pub returns : goal.returns
returns c = every_refusal_leaves_no_trace
