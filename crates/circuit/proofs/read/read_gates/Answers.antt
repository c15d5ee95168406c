use Rattle.std.proofs.Common.{length, arith, rules}
use Rattle.std.proofs.lemmas.List.{take_more_set, length-take-le}
use Rattle.circuit.proofs.CountLaws.{one_left}
use Rattle.circuit.proofs.read.read_gates.Goals as goal

pub returns-in_err-gate : goal.returns-in_err-gate
returns-in_err-gate c =
    let less = one_left (length c.args.gates.now) c.loop-g.g c.loop-g-test.true in
    let front = length-take-le c.loop-g.g c.loop-g.gates (omega arith) in
    search rules

pub loop-g-preserved : goal.loop-g-preserved
loop-g-preserved c =
    let less = one_left (length c.args.gates.now) c.loop-g.g c.loop-g-test.true in
    let front = length-take-le c.loop-g.g c.loop-g.gates (omega arith) in
    let more = take_more_set c.loop-g.gates c.loop-g.g c.in_ok-gate.field-0 (omega arith) in
    search rules
