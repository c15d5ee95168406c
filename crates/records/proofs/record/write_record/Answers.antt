use Rattle.std.proofs.Common.{rules}
use Rattle.records.specs.Records.{Fits}
use Rattle.records.proofs.RecordLaws.{reads_back}
use Rattle.records.proofs.record.write_record.Goals as goal

pub returns-in-Premise-Falsity-clause-back : goal.returns-in-Premise-Falsity-clause-back
returns-in-Premise-Falsity-clause-back c =
    let s = c.args.step in
    let fits : Fits s = search rules in
    reads_back s _ c.args.out.now _ fits (search rules) (search rules)

pub returns-in-Resolve-clause-back : goal.returns-in-Resolve-clause-back
returns-in-Resolve-clause-back c =
    let s = c.args.step in
    let fits : Fits s = search rules in
    reads_back s _ c.args.out.now _ fits (search rules) (search rules)
