use Rattle.laws.proofs.Widths.{every_run_approves_widths}
use Rattle.laws.proofs.every_run_approves_widths.Goals as goal

pub returns : goal.returns
returns c = every_run_approves_widths
