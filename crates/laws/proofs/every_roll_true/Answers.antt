use Rattle.laws.proofs.Rolls.{every_roll_true}
use Rattle.laws.proofs.every_roll_true.Goals as goal

pub returns : goal.returns
returns c = every_roll_true
