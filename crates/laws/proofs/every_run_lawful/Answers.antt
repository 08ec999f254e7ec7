use Rattle.laws.proofs.Reaching.{every_run_lawful}
use Rattle.laws.proofs.every_run_lawful.Goals as goal

pub returns : goal.returns
returns c = every_run_lawful
