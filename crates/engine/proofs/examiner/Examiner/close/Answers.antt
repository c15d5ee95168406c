use Rattle.std.proofs.Common.{◌≡◌, rules}
use Rattle.records.specs.declared.slip.Slip.TheVariants as slip
use Rattle.engine.specs.Means.{rules_of, state_of}
use Rattle.engine.specs.Plain.{close_slip}
use Rattle.engine.proofs.VerdictLaws.{slip_sound}
use Rattle.engine.proofs.examiner.Examiner.close.Goals as goal

pub returns-in-True-clause-sound : goal.returns-in-True-clause-sound
returns-in-True-clause-sound g c =
    let same : slip.True c.spend-case.result c.count-clauses.result ≡ close_slip (rules_of g.S.Side g.F.Shelf c.args.self.now) (state_of g.S.Side g.F.Shelf c.args.self.now) c.args.ticket.number = search rules in
    slip_sound g.S.Side g.F.Shelf c.args.self.now c.args.ticket.number _ same

pub returns-in-False-clause-sound : goal.returns-in-False-clause-sound
returns-in-False-clause-sound g c =
    let same : slip.False c.spend-case.result c.count-clauses.result ≡ close_slip (rules_of g.S.Side g.F.Shelf c.args.self.now) (state_of g.S.Side g.F.Shelf c.args.self.now) c.args.ticket.number = search rules in
    slip_sound g.S.Side g.F.Shelf c.args.self.now c.args.ticket.number _ same
