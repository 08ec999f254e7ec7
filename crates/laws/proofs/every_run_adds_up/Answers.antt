use Rattle.laws.proofs.Balances.{every_run_adds_up}
use Rattle.laws.proofs.every_run_adds_up.Goals as goal

pub returns : goal.returns
returns c = every_run_adds_up
