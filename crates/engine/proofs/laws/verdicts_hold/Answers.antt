use Rattle.engine.proofs.Soundness.{sound_closing}
use Rattle.engine.proofs.laws.verdicts_hold.Goals as goal

pub returns : goal.returns
returns g c = sound_closing g.S.Side c.args.side.now
