use Rattle.laws.proofs.Deals.{every_run_deals_fairly}
use Rattle.laws.proofs.every_run_deals_fairly.Goals as goal

pub returns : goal.returns
returns c = every_run_deals_fairly
