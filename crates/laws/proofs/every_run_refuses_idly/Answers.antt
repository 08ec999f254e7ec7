use Rattle.laws.proofs.Refusals.{every_run_refuses_idly}
use Rattle.laws.proofs.every_run_refuses_idly.Goals as goal

pub returns : goal.returns
returns c = every_run_refuses_idly
