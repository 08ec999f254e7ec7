use Rattle.laws.proofs.Moves.{every_run_moves_lawfully}
use Rattle.laws.proofs.every_run_moves_lawfully.Goals as goal

pub returns : goal.returns
returns c = every_run_moves_lawfully
