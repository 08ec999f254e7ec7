-- Trades are deals.
use Rattle.trading.specs.Journals.{Traded}
use Rattle.laws.specs.Deals.{EveryRunDealsFairly}
use Rattle.laws.proofs.Runs.{fair_event, run_kept}

pub every_run_deals_fairly : EveryRunDealsFairly
every_run_deals_fairly m refs lo lq asked t earlier b = (fair_event m refs (run_kept m refs lo lq asked) (Traded t) b.0 earlier b.1).2
