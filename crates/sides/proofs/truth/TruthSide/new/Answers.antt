use Rattle.sides.proofs.AgreementLaws.{never_both}
use Rattle.sides.proofs.truth.TruthSide.new.Goals as goal

pub returns-clause-agrees : goal.returns-clause-agrees
returns-clause-agrees c = never_both c.args.formula c.args.circuit
