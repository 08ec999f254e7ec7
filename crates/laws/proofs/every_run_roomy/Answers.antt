use Rattle.laws.proofs.Capacity.{every_run_roomy}
use Rattle.laws.proofs.every_run_roomy.Goals as goal

pub returns : goal.returns
returns c = every_run_roomy
