use Rattle.laws.proofs.Causes.{every_run_refuses_for_cause}
use Rattle.laws.proofs.every_run_refuses_for_cause.Goals as goal

pub returns : goal.returns
returns c = every_run_refuses_for_cause
