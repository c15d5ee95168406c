use Rattle.std.proofs.Common.{length, arith, rules}
use Rattle.std.proofs.lemmas.List.{take_more_set}
use Rattle.circuit.proofs.CountLaws.{one_left}
use Rattle.circuit.proofs.read.read_outputs.Goals as goal

pub returns-in_err-output : goal.returns-in_err-output
returns-in_err-output c = let less = one_left (length c.args.outputs.now) c.loop-output.output-index c.loop-output-test.true in search rules

pub loop-output-preserved : goal.loop-output-preserved
loop-output-preserved c =
    let less = one_left (length c.args.outputs.now) c.loop-output.output-index c.loop-output-test.true in
    let more = take_more_set c.loop-output.outputs c.loop-output.output-index c.in_ok-output.field-0 (omega arith) in
    search rules
