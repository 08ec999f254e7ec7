use Rattle.laws.proofs.Runs.{every_run_protected}
use Rattle.laws.proofs.every_run_protected.Goals as goal

pub returns : goal.returns
returns c = every_run_protected
