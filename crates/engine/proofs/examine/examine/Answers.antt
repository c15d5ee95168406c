use Rattle.std.proofs.Common.{refl}
use Rattle.std.proofs.lemmas.Result.{MatchResult-from_err}
use Rattle.engine.specs.Means.{rules}
use Rattle.engine.proofs.HistoryLaws.{all_runs_lawful}
use Rattle.engine.proofs.VerdictLaws.{run_examined}
use Rattle.engine.proofs.examine.examine.Goals as goal

pub returns-in_err-examiner : goal.returns-in_err-examiner
returns-in_err-examiner g c =
    record {
      examined = MatchResult-from_err c.from_residual.result _ _ c.from_residual.ensures.0 (λ _. refl);
      lawful = all_runs_lawful (rules g.S.Side g.F.Shelf c.args.side c.args.shelf) (g.S.Side.few c.args.side);
    }

pub returns : goal.returns
returns g c =
    let made = c.in_ok-examiner.ensures in
    record {
      examined =
          run_examined g.S.Side g.F.Shelf c.run.result c.args.calls.now c.args.answers.now c.run.new.answers c.in_ok-examiner.examiner c.run.new.examiner c.run.ensures.runs
          c.args.side c.args.shelf made.rules made.state made.side c.run.ensures.count;
      lawful = all_runs_lawful (rules g.S.Side g.F.Shelf c.args.side c.args.shelf) (g.S.Side.few c.args.side);
    }
