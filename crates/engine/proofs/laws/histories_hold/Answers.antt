use Rattle.engine.proofs.HistoryLaws.{all_runs_lawful}
use Rattle.engine.proofs.laws.histories_hold.Goals as goal

pub returns : goal.returns
returns c = all_runs_lawful
