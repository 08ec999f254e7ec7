use Rattle.laws.proofs.Moments.{every_run_takes_its_time}
use Rattle.laws.proofs.every_run_takes_its_time.Goals as goal

pub returns : goal.returns
returns c = every_run_takes_its_time
