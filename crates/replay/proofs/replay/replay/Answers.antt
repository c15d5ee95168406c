use Rattle.engine.specs.Means.{rules}
use Rattle.engine.proofs.HistoryLaws.{all_runs_lawful}
use Rattle.replay.proofs.ReplayLaws.{replays_made}
use Rattle.replay.proofs.replay.replay.Goals as goal

pub returns-in_err-examiner-clause-lawful : goal.returns-in_err-examiner-clause-lawful
returns-in_err-examiner-clause-lawful g c =
    all_runs_lawful (rules g.S.Side g.F.Shelf c.args.side c.args.shelf) (g.S.Side.few c.args.side)

pub returns : goal.returns
returns g c =
    let made = c.in_ok-examiner.ensures in
    let all = replays_made g.S.Side g.F.Shelf c.args.case c.args.proof.now c.replay_on.result c.in_ok-examiner.examiner c.args.side c.args.shelf made.rules made.state made.side c.replay_on.ensures in
    record {
      is = all.0;
      holds = all.1;
      lawful = all_runs_lawful (rules g.S.Side g.F.Shelf c.args.side c.args.shelf) (g.S.Side.few c.args.side);
    }
