use Rattle.laws.proofs.Rolls.{every_run_keeps_true_rows}
use Rattle.laws.proofs.every_run_keeps_true_rows.Goals as goal

pub returns : goal.returns
returns c = every_run_keeps_true_rows
